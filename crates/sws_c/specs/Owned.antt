-- What a `PlanOwner` owns: the same as a `Box<SharedPlan>` where it is open, else nothing.
use base.Fml.{Fml, ftrue}
use base.Stored.{Coded}
use denote.RawPtr.{Ptr}
use Rattle.std.specs.Prelude.{Option, None, Some}
use Rattle.std.specs.Coded.{coded_option}
use Rattle.std.specs.Box.Ownership.{box_owns}
use Rattle.std.specs.Global.{Global}
use Rattle.std.specs.contracts.impls.GlobalAllocator.TheImpl.{ghosts}
use Rattle.sws_c.specs.contracts.shared_plan.SharedPlan.{the_row}

-- what stands behind the pointer of an owner: the block of what is kept, where something is
abbrev pub owner_owns : Global → Ptr → Option the_row.Denot → Fml
owner_owns alloc ptr None = ftrue
owner_owns alloc ptr (Some shared) = box_owns (ghosts.dealloc_token alloc) the_row ptr shared

-- how the logic stores what is kept
abbrev pub kept_coded : Coded (Option the_row.Denot)
kept_coded = coded_option the_row.coded
