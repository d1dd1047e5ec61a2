use Rattle.std.proofs.Common.{rules}
use Rattle.pix_desc.specs.Component.{components}
use Rattle.pix_desc.specs.Layouts.{is_byte}
use Rattle.pix_desc.proofs.Pairs.{list_all-not_any}
use Rattle.pix_desc.proofs.checks.is_index.Goals as goal

pub returns-then-not-desc : goal.returns-then-not-desc
returns-then-not-desc c = search (rules, list_all-not_any is_byte (components c.args.desc.now))
