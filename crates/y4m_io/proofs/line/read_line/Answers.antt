use Rattle.std.proofs.Common.{rules, ◌≡◌, ◌≤◌, ◌+◌, ◌-◌, ℕ, true, [], ◌∷◌, ◌++◌, length, take, get_or, arith, sym, ap, ◌∙◌, length-take-le}
use borrow.Rule.Slice.PartMut.{put_mid}
use Rattle.y4m_io.specs.LineKinds.{is_front, word_size}
use Rattle.y4m_io.proofs.LineFronts.{word_size-newline}
use Rattle.y4m_io.proofs.LineExits.{taken-next, front-kept, front-next, closed-next, short-answer, wrong-answer, long-answer, whole-answer}
use Rattle.y4m_io.proofs.line.read_line.Goals as goal

pub returns-clause-fault : goal.returns-clause-fault
returns-clause-fault g c =
    let long : length (take c.loop-size.size c.loop-size.line) ≡ c.loop-size.size = length-take-le c.loop-size.size c.loop-size.line
    c.loop-size.invariant.within in
    long-answer c.args.kind _ _ (take c.loop-size.size c.loop-size.line) c.loop-size.invariant.taken c.loop-size.invariant.closed
    (omega arith) c.loop-size.invariant.front

pub returns-else-size-eq0-clause-fault : goal.returns-else-size-eq0-clause-fault
returns-else-size-eq0-clause-fault g c =
    let front = take c.loop-size.size c.loop-size.line in
    let long : length front ≡ c.loop-size.size = length-take-le c.loop-size.size c.loop-size.line c.loop-size.invariant.within in
    let now = rw c.if-count-eq0.true at c.in-Ok.ensures.bytes.0 in
    rw (c.cut_off.ensures, ← long)
    (short-answer c.args.kind _ _ _ front c.loop-size.invariant.taken now (c.in-Ok.ensures.bytes.1 c.if-count-eq0.true (search rules))
    c.loop-size.invariant.closed (omega arith) (omega arith) c.loop-size.invariant.front)

pub returns-then-not-is_front-clause-fault : goal.returns-then-not-is_front-clause-fault
returns-then-not-is_front-clause-fault g c =
    let new = put_mid c.loop-size.size (c.loop-size.size + 1 - c.loop-size.size) c.loop-size.line c.read.new.buf in
    let taken = taken-next (g.In.Source.shown c.args.input.now).bytes (g.In.Source.shown c.loop-size.input).bytes
    (g.In.Source.shown c.read.new.self).bytes c.loop-size.line c.read.new.buf c.loop-size.size c.in-Ok.count
    c.loop-size.invariant.within (search rules) c.in-Ok.ensures.bound.0 c.if-count-eq0.false c.loop-size.invariant.taken
    c.in-Ok.ensures.bytes.0 in
    rw c.wrong_word.ensures (wrong-answer c.args.kind _ _ (take (c.loop-size.size + 1) new) taken (sym c.is_front.ensures
    ∙ c.if-not-is_front.true))

pub returns-then-not-is_front-clause-front : goal.returns-then-not-is_front-clause-front
returns-then-not-is_front-clause-front g c =
    let new = put_mid c.loop-size.size (c.loop-size.size + 1 - c.loop-size.size) c.loop-size.line c.read.new.buf in (
      take (c.loop-size.size + 1) new,
      taken-next (g.In.Source.shown c.args.input.now).bytes (g.In.Source.shown c.loop-size.input).bytes
          (g.In.Source.shown c.read.new.self).bytes c.loop-size.line c.read.new.buf c.loop-size.size c.in-Ok.count
          c.loop-size.invariant.within (search rules) c.in-Ok.ensures.bound.0 c.if-count-eq0.false c.loop-size.invariant.taken
          c.in-Ok.ensures.bytes.0,
    )

pub returns-then-line-size-eq10-clause-line : goal.returns-then-line-size-eq10-clause-line
returns-then-line-size-eq10-clause-line g c =
    let new = put_mid c.loop-size.size (c.loop-size.size + 1 - c.loop-size.size) c.loop-size.line c.read.new.buf in
    let within : c.loop-size.size + 1 ≤ length new = search rules in
    let old = take c.loop-size.size c.loop-size.line in
    let long : length old ≡ c.loop-size.size = length-take-le c.loop-size.size c.loop-size.line c.loop-size.invariant.within in
    let kept = front-kept c.loop-size.line c.read.new.buf c.loop-size.size c.loop-size.invariant.within in
    let front : take (c.loop-size.size + 1) new ≡ old ++ 10 ∷ [] =
    front-next c.loop-size.line c.read.new.buf c.loop-size.size c.loop-size.invariant.within (omega (arith, within))
    ∙ ap (λ (byte : ℕ). old ++ byte ∷ []) c.if-line-size-eq10.true in
    let taken = taken-next (g.In.Source.shown c.args.input.now).bytes (g.In.Source.shown c.loop-size.input).bytes
    (g.In.Source.shown c.read.new.self).bytes c.loop-size.line c.read.new.buf c.loop-size.size c.in-Ok.count
    c.loop-size.invariant.within (search rules) c.in-Ok.ensures.bound.0 c.if-count-eq0.false c.loop-size.invariant.taken
    c.in-Ok.ensures.bytes.0 in
    let same : is_front c.args.kind (old ++ 10 ∷ []) ≡ true = ap (is_front c.args.kind) (sym front) ∙ sym c.is_front.ensures
    ∙ c.if-not-is_front.false in
    let size : c.loop-size.size ≤ 1024 = omega arith in
    let word : word_size c.args.kind ≤ c.loop-size.size = rw long at (word_size-newline c.args.kind old same) in (
      word,
      size,
      rw kept (whole-answer c.args.kind (g.In.Source.shown c.args.input.now).bytes (g.In.Source.shown c.read.new.self).bytes old
          c.loop-size.size (rw front at taken) c.loop-size.invariant.closed long size same),
    )

pub loop-size-preserved : goal.loop-size-preserved
loop-size-preserved g c =
    let new = put_mid c.loop-size.size (c.loop-size.size + 1 - c.loop-size.size) c.loop-size.line c.read.new.buf in
    let within : c.loop-size.size + 1 ≤ length new = search rules in
    let front = front-next c.loop-size.line c.read.new.buf c.loop-size.size c.loop-size.invariant.within (omega (arith, within)) in
    record {
      within = within;
      taken = taken-next (g.In.Source.shown c.args.input.now).bytes (g.In.Source.shown c.loop-size.input).bytes
          (g.In.Source.shown c.read.new.self).bytes c.loop-size.line c.read.new.buf c.loop-size.size c.in-Ok.count
          c.loop-size.invariant.within (search rules) c.in-Ok.ensures.bound.0 c.if-count-eq0.false c.loop-size.invariant.taken
          c.in-Ok.ensures.bytes.0;
      closed = rw front (closed-next (take c.loop-size.size c.loop-size.line) (get_or new c.loop-size.size 0) c.loop-size.invariant.closed
          c.if-line-size-eq10.false);
      front = sym c.is_front.ensures ∙ c.if-not-is_front.false;
      quiet = search rules;
    }
