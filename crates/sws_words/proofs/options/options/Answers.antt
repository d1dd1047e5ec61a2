use Rattle.std.proofs.Common.{refl}
use Rattle.sws_words.specs.Options.{option_of, options}
use Rattle.sws_words.proofs.options.options.Goals as goal

pub returns : goal.returns
unfolding option_of options
returns c = refl
