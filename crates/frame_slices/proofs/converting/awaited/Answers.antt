use Rattle.std.proofs.Common.{◌≡◌, ◌++◌, ◌<◌, [], ◌∷◌, length, map, take, get_or, sym, ◌∙◌, ap, ap₂, arith, rules}
use Rattle.std.proofs.lemmas.List.{map_push, length_push}
use Rattle.std.specs.Sync.OnceLock.{Named}
use Rattle.row_plan.specs.Jobs.{pair_before}
use Rattle.frame_slices.specs.Awaited.{awaited_origin}
use Rattle.frame_slices.proofs.Gathered.{numbered_more}
use Rattle.frame_slices.proofs.Chained.{map_more}
use Rattle.frame_slices.proofs.converting.awaited.Goals as goal

pub loop-k-preserved : goal.loop-k-preserved
loop-k-preserved c =
    let k = c.loop-k.k in
    let pair = c.args.plan.now.pair in
    let name = λ (cell : Named). pair_before pair (cell.id ∷ []) in
    let xs = c.loop-k.jobs.items in
    let cells = c.args.cells.now in
    let y = c.new.result in
    let within : k < length cells = search rules in
    let there : get_or cells k c.index-cells-k.result ≡ c.index-cells-k.result = search rules in
    let pushed : c.push_reserved.new.self.items ≡ xs ++ (y ∷ []) = search rules in
    record {
      count = ap length pushed ∙ length_push xs y ∙ omega (arith, c.loop-k.invariant.count);
      room = omega (arith, c.loop-k.invariant.room, c.push_reserved.ensures.capacity);
      numbered = numbered_more xs c.push_reserved.new.self.items y pushed c.loop-k.invariant.numbered
          (c.new.ensures.number ∙ sym c.loop-k.invariant.count);
      origins =
          ap (map awaited_origin) pushed ∙ map_push awaited_origin xs y
          ∙ ap₂ (λ l b. l ++ (b ∷ [])) c.loop-k.invariant.origins c.new.ensures.origin
          ∙ ap (λ cell. map name (take k cells) ++ (name cell ∷ [])) (sym there)
          ∙ sym (map_more name cells k c.index-cells-k.result within);
    }
