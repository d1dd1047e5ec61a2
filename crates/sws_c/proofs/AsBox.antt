-- An open owner owns what a box at the same types owns.
use mir.Syntax.{impl, tnil, dnil}
use mathlib.Core.List.{[]}
use denote.Signature.{Slot, plain}
use Rattle.std.proofs.BoxSteps.Form.{Bx}
use Rattle.std.specs.contracts.alloc.Global as Heap
use Rattle.std.specs.contracts.impls.GlobalAllocator.TheImpl.{ghosts, dict}
use Rattle.std.proofs.alloc.Global.TheLaws as heap
use Rattle.sws_c.specs.contracts.shared_plan.SharedPlan as Home
use Rattle.sws_c.proofs.shared_plan.SharedPlan.TheLaws as home
use Rattle.sws_c.specs.contracts.owner.parts.Parts as Parts
use Rattle.sws_c.specs.contracts.owner.PlanOwner as PlanOwner

abbrev pub E : Bx
E = record {
  row = Home.the_row;
  laws = home.the_row_laws;
  al = record { row = Heap.the_row; laws = heap.the_row_laws; g = ghosts; d = dict; drops = impl [] tnil dnil };
}

abbrev pub FromParts : Slot 0
FromParts = plain (λ _. Parts.the_row Home.the_row Heap.the_row ghosts)

abbrev pub FromOwner : Slot 0
FromOwner = plain (λ _. PlanOwner.the_row)

abbrev pub FromHeap : Slot 0
FromHeap = plain (λ _. Heap.the_row)
