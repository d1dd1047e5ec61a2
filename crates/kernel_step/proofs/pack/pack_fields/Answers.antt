use Rattle.std.proofs.Common.{ℕ, ◌+◌, arith, refl, slice_index_or, sum}
use Rattle.kernel_step.proofs.FieldSteps.{field_room, packed_small}
use Rattle.kernel_step.proofs.Shifts.{power_order}
use Rattle.kernel_step.proofs.pack.pack_fields.Goals as goal

pub place_first-requires-clause-room : goal.place_first-requires-clause-room
place_first-requires-clause-room g c =
    omega (
      arith,
      field_room c.args.widths.now 0 (omega arith) (omega arith),
      power_order (sum c.args.widths.now) g.W.WholeNumber.bits
          c.requires.fits,
    )

pub add_field-requires-clause-room : goal.add_field-requires-clause-room
add_field-requires-clause-room g c =
    omega (
      arith,
      field_room c.args.widths.now 1 (omega arith) (omega arith),
      power_order (sum c.args.widths.now) g.W.WholeNumber.bits
          c.requires.fits,
    )

pub add_field-requires-2-clause-room : goal.add_field-requires-2-clause-room
add_field-requires-2-clause-room g c =
    omega (
      arith,
      field_room c.args.widths.now 2 (omega arith) (omega arith),
      power_order (sum c.args.widths.now) g.W.WholeNumber.bits
          c.requires.fits,
    )

pub add_field-requires-3-clause-room : goal.add_field-requires-3-clause-room
add_field-requires-3-clause-room g c =
    omega (
      arith,
      field_room c.args.widths.now 3 (omega arith) (omega arith),
      power_order (sum c.args.widths.now) g.W.WholeNumber.bits
          c.requires.fits,
    )

pub add_field-requires-clause-fits : goal.add_field-requires-clause-fits
add_field-requires-clause-fits g c =
    λ i d below.
    let x = λ (at : ℕ). g.W.WholeNumber.number (slice_index_or c.args.values.now at d) in
    let all = packed_small c.args.widths.now (x i) (x (64 + i)) (x (128 + i)) (x (192 + i)) (omega arith) in
    rw (c.place_first.ensures.set i d below, c.place_first.ensures.kept (64 + i) d (omega arith)) (omega (arith, all, c.requires.fits))

pub add_field-requires-2-clause-fits : goal.add_field-requires-2-clause-fits
add_field-requires-2-clause-fits g c =
    λ i d below.
    let x = λ (at : ℕ). g.W.WholeNumber.number (slice_index_or c.args.values.now at d) in
    let all = packed_small c.args.widths.now (x i) (x (64 + i)) (x (128 + i)) (x (192 + i)) (omega arith) in
    rw (
      c.add_field.ensures.set i d below,
      c.add_field.ensures.kept (128 + i) d (omega arith),
      c.place_first.ensures.set i d below,
      c.place_first.ensures.kept (64 + i) d (omega arith),
      c.place_first.ensures.kept (128 + i) d (omega arith),
    )
    (omega (arith, all, c.requires.fits))

pub add_field-requires-3-clause-fits : goal.add_field-requires-3-clause-fits
add_field-requires-3-clause-fits g c =
    λ i d below.
    let x = λ (at : ℕ). g.W.WholeNumber.number (slice_index_or c.args.values.now at d) in
    let all = packed_small c.args.widths.now (x i) (x (64 + i)) (x (128 + i)) (x (192 + i)) (omega arith) in
    rw (
      c.add_field-2.ensures.set i d below,
      c.add_field-2.ensures.kept (192 + i) d (omega arith),
      c.add_field.ensures.set i d below,
      c.add_field.ensures.kept (128 + i) d (omega arith),
      c.add_field.ensures.kept (192 + i) d (omega arith),
      c.place_first.ensures.set i d below,
      c.place_first.ensures.kept (64 + i) d (omega arith),
      c.place_first.ensures.kept (128 + i) d (omega arith),
      c.place_first.ensures.kept (192 + i) d (omega arith),
    )
    (omega (arith, all, c.requires.fits))

pub returns-clause-set : goal.returns-clause-set
returns-clause-set g c =
    λ i d below.
    rw (
      c.add_field-3.ensures.set i d below,
      c.add_field-2.ensures.set i d below,
      c.add_field-2.ensures.kept (192 + i) d (omega arith),
      c.add_field.ensures.set i d below,
      c.add_field.ensures.kept (128 + i) d (omega arith),
      c.add_field.ensures.kept (192 + i) d (omega arith),
      c.place_first.ensures.set i d below,
      c.place_first.ensures.kept (64 + i) d (omega arith),
      c.place_first.ensures.kept (128 + i) d (omega arith),
      c.place_first.ensures.kept (192 + i) d (omega arith),
    )
    refl
