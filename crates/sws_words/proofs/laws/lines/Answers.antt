use Rattle.std.proofs.Common.{refl}
use Rattle.clap.proofs.OnLiterals.{clap_on_literals}
use Rattle.desc_table.specs.Format.{format_at, formats}
use Rattle.desc_table.specs.Refused.{fault_named, lookup, refused, row_named}
use Rattle.sws_words.specs.Command.{command, given_by, takes_words}
use Rattle.sws_words.specs.Given.{source_given, source_named, target_given, value_of}
use Rattle.sws_words.specs.Options.{options}
use Rattle.sws_words.specs.Rules.{bars, conversion_given, is_misread, is_missing, is_stream_format, is_unwanted, lacks, making_given}
use Rattle.sws_words.specs.Rules.{misreads, sides_given, task_by, task_of}
use Rattle.sws_words.specs.Values.{is_value}
use Rattle.sws_words.proofs.laws.lines.Goals as goal

pub returns-clause-refused : goal.returns-clause-refused
unfolding
    clap_on_literals command given_by takes_words options value_of source_given source_named target_given bars conversion_given
    sides_given making_given
    is_misread is_missing is_stream_format is_unwanted lacks misreads task_by task_of is_value lookup row_named fault_named refused formats
    format_at
returns-clause-refused c = refl

pub returns-clause-accepted : goal.returns-clause-accepted
unfolding
    clap_on_literals command given_by takes_words options value_of source_given source_named target_given bars conversion_given
    sides_given making_given
    is_misread is_missing is_stream_format is_unwanted lacks misreads task_by task_of is_value lookup row_named fault_named refused formats
    format_at
returns-clause-accepted c = refl
