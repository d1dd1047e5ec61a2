use Rattle.std.proofs.Common.{◌∙◌, ap, sym}
use Rattle.pix_meaning.specs.declared.pair.Pair.{Pair}
use Rattle.sws_run.proofs.Opened.{source_format, target_format}
use Rattle.sws_run.proofs.convert.prepare.Goals as goal

pub returns-clause-frame : goal.returns-clause-frame
returns-clause-frame c = record {
  source = ap (λ (pair : Pair). pair.from.desc) c.pair_of.ensures ∙ source_format _ _
      ∙ sym (c.in_ok-frame.ensures.source ∙ c.desc.ensures.value);
  target = ap (λ (pair : Pair). pair.to.desc) c.pair_of.ensures ∙ target_format _ _
      ∙ sym (c.in_ok-frame.ensures.target ∙ c.desc-2.ensures.value);
  width = sym c.in_ok-frame.ensures.width;
  height = sym c.in_ok-frame.ensures.height;
}
