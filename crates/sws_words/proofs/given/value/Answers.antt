-- The first value of an option is that of its row.
use Rattle.std.proofs.Common.{◌∙◌}
use Rattle.clap.specs.Matches.{found_of}
use Rattle.clap.proofs.WalkLemmas.{first_value-rows}
use Rattle.sws_words.specs.Given.{value_of}
use Rattle.sws_words.proofs.given.value.Goals as goal

pub returns : goal.returns
unfolding value_of
returns c = c.get_str.ensures ∙ first_value-rows (found_of c.args.given.now) c.args.name.now
