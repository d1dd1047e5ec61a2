use Rattle.std.proofs.Common.{◌≡◌, ◌++◌, ◌<◌, [], ◌∷◌, Some, Option, length, get_or, refl, sym, ◌∙◌, ap, arith, rules, subst, append_assoc}
use Rattle.std.specs.Prelude.{slice_get}
use Rattle.std.proofs.lemmas.Option.{slice_get-get_or}
use Rattle.std.proofs.lemmas.List.{length_push}
use Rattle.frame_slices.specs.Handing.{Token}
use Rattle.frame_slices.proofs.Gathered.{get_there, gathered_more}
use Rattle.frame_slices.proofs.gathering.gather.Goals as goal

pub agrees-requires : goal.agrees-requires
agrees-requires c =
    let k = c.loop-job.next in
    let job = c.in-Some.job in
    let tokens = c.args.tokens.now.items in
    let found : slice_get c.args.jobs.items k ≡ Some job =
    subst (λ l. slice_get l k ≡ Some job) (sym (c.loop-job.invariant.jobs ∙ ap (λ l. c.loop-job.yielded ++ l) c.in-Some.ensures.steps.0))
    (subst (λ n. slice_get (c.loop-job.yielded ++ (job ∷ c.next.new.self.rest.items)) n ≡ Some job) (sym c.loop-job.invariant.next)
    (get_there c.loop-job.yielded job c.next.new.self.rest.items)) in
    let made : job.converted ≡ Some c.in-Some-Some.converted = search rules in
    let within : k < length tokens = omega (arith, c.loop-job.invariant.count, c.args.tokens.now.ok.0, ap length c.in-Some.ensures.steps.0) in
    let there : get_or tokens k c.index.result.now ≡ Some c.in-Some-Some.token = search rules in
    c.requires.same k job c.in-Some-Some.converted c.in-Some-Some.token found made
    (slice_get-get_or tokens k c.index.result.now within ∙ ap (λ (t : Option Token). Some t) there)

pub loop-job-preserved : goal.loop-job-preserved
loop-job-preserved c =
    let k = c.loop-job.next in
    let job = c.in-Some.job in
    let tokens = c.args.tokens.now.items in
    let rows = c.loop-job.rows.items in
    let converted = c.in-Some-Some.converted in
    let token = c.in-Some-Some.token in
    let step = c.in-Some.ensures.steps.0 in
    let made : job.converted ≡ Some converted = search rules in
    let within : k < length tokens = omega (arith, c.loop-job.invariant.count, c.args.tokens.now.ok.0, ap length step) in
    let there : get_or tokens k c.index.result.now ≡ Some token = search rules in
    let shown : slice_get tokens k ≡ Some (Some token) = slice_get-get_or tokens k c.index.result.now within
    ∙ ap (λ (t : Option Token). Some t) there in
    let pushed : c.push_reserved.new.self.items ≡ rows ++ (converted.rows ∷ []) = search rules in
    record {
      walks = search rules;
      count = omega (arith, c.loop-job.invariant.count, ap length step);
      next = omega (arith, c.loop-job.invariant.next) ∙ sym (length_push c.loop-job.yielded job);
      jobs = c.loop-job.invariant.jobs ∙ ap (λ l. c.loop-job.yielded ++ l) step
          ∙ sym (append_assoc c.loop-job.yielded (job ∷ []) c.next.new.self.rest.items);
      room = omega (arith, c.loop-job.invariant.room, ap length step, c.push_reserved.ensures.len, c.push_reserved.ensures.capacity);
      gathered = gathered_more c.loop-job.yielded tokens rows c.push_reserved.new.self.items job converted.rows pushed
          c.loop-job.invariant.gathered
          (record {
            converted = converted;
            shown = token;
            made = made;
            shows = subst (λ n. slice_get tokens n ≡ Some (Some token)) c.loop-job.invariant.next shown;
            same = c.agrees.ensures;
            rows_are = refl;
          });
    }
