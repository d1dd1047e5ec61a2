-- The command that is built is the one of the definitions, and clap's clauses say of it what they say.
use Rattle.std.proofs.Common.{◌≡◌, ◌∙◌, ◌⊎◌, ◌<◌, ◌≤◌, ◌+◌, inl, inr, rules, refl, sym, ap, subst, true, false, ℕ, List, [], ◌∷◌}
use Rattle.std.proofs.Common.{map, arith, length, ne_eqb, slice_index_or}
use Rattle.std.specs.Prelude.{Result, Ok, Err, IfOk, IfErr, fold, string_bytes}
use Rattle.std.specs.Borrow.{Bor}
use Rattle.std.proofs.lemmas.Result.{IfOk-weaker}
use Rattle.clap.specs.Kinds.{FailsBy, IsAmong, Kinds}
use Rattle.clap.specs.Faults.{fault_of, is_simple_and_free}
use Rattle.clap.specs.Simple.{App, app_of, is_simple, matches_of, with_rule}
use Rattle.clap.specs.Values.{kind_of}
use Rattle.clap.specs.Walk.{Rule, Text, is_empty, rule_of}
use Rattle.clap.specs.declared.error.Error.{Error}
use Rattle.clap.specs.declared.error.kind.ErrorKind.{ErrorKind}
use Rattle.clap.specs.declared.error.kind.ErrorKind.TheVariants.{OutOfMemory}
use Rattle.sws_words.specs.declared.options.OptionRow.{OptionRow}
use Rattle.sws_words.specs.Command.{command, command_with, given_by, long_option, takes_words, with_option}
use Rattle.sws_words.specs.Options.{option_of, options}
use Rattle.sws_words.proofs.OptionRows.{left_from, next_option, no_option}
use Rattle.sws_words.proofs.words.given.Goals as goal

-- the command is simple, and none of its options has a rule on another
simple : is_simple command ≡ true
unfolding command options
simple = refl

free : is_simple_and_free command ≡ true
unfolding command options
free = refl

-- one option more is told, and one less is left
added : (rows : List OptionRow) (i : ℕ) (d : OptionRow) (old new : App) (rule : Rule) (name : Text) → i < length rows
    → new ≡ with_rule old rule → rule ≡ long_option name → name ≡ (slice_index_or rows i d).name.now
    → fold with_option old (left_from rows i) ≡ fold with_option new (left_from rows (i + 1))
unfolding option_of
added rows i d old new rule name below is told named =
    let one : with_rule old (long_option (slice_index_or rows i d).name.now) ≡ new =
    ap (λ n. with_rule old (long_option n)) (sym named) ∙ sym (is ∙ ap (with_rule old) told) in
    ap (fold with_option old) (next_option rows i d below) ∙ ap (λ app. fold with_option app (left_from rows (i + 1))) one

-- all are told
whole : (app : App) (rows : List OptionRow) (i : ℕ) → length rows ≤ i
    → fold with_option app (left_from rows i) ≡ command_with options → app ≡ command
unfolding command
whole app rows i past is = ap (fold with_option app) (sym (no_option rows i past)) ∙ is

nonempty : (kind : ErrorKind) (kinds : Kinds) → IsAmong kind kinds → is_empty kinds ≡ false
nonempty kind [] among = absurd among
nonempty kind (k ∷ ks) among = ne_eqb _ _ (λ e. omega arith)

-- clap's clause on the kinds of error, at the command
of_command : {T : Type 0} (app : App) (texts : List Text) (r : Result T Error) → app ≡ command
    → (is_simple_and_free app ≡ true → FailsBy (fault_of app texts) r) → FailsBy (fault_of command texts) r
of_command app texts r made kinds = subst (λ a. FailsBy (fault_of a texts) r) made (kinds (ap is_simple_and_free made ∙ free))

taken_by : {T : Type 0} (kinds : Kinds) (r : Result T Error) → FailsBy kinds r → IfOk r (λ _. is_empty kinds ≡ true)
taken_by kinds (Ok x) none = ap is_empty none
taken_by kinds (Err e) some = tt

refused_by : {T : Type 0} (kinds : Kinds) (r : Result T Error) → FailsBy kinds r
    → IfErr r (λ e. (kind_of e ≡ OutOfMemory) ⊎ (is_empty kinds ≡ false))
refused_by kinds (Ok x) none = tt
refused_by kinds (Err e) some = elim some [ inl memory ↦ inl memory | inr among ↦ inr (nonempty (kind_of e) kinds among) ]

pub loop-option-preserved : goal.loop-option-preserved
loop-option-preserved c =
    let arg = c.new-in-loop-option.result in
    let told : rule_of c.long.result ≡ long_option arg.id.now = search rules in
    let more = added c.options-option-items.result.now c.loop-option.option-index _ (app_of c.loop-option.command)
    (app_of c.in_ok-command.command) (rule_of c.long.result) arg.id.now
    (omega arith) (c.in_ok-command.ensures.shape (search rules)) told
    (ap (λ (text : Bor Text). text.now) c.new-in-loop-option.ensures.id) in
    sym more ∙ c.loop-option.invariant

pub returns-clause-rows : goal.returns-clause-rows
unfolding given_by
returns-clause-rows c =
    let rows = c.options-option-items.result.now in
    let made = whole (app_of c.loop-option.command) rows c.loop-option.option-index (omega arith) c.loop-option.invariant in
    let texts = map string_bytes c.args.words.now in
    IfOk-weaker c.try_get_matches_from.result _ _
    (λ m h. (h (ap is_simple made ∙ simple)).0 ∙ ap (λ app. matches_of app texts) made) c.try_get_matches_from.ensures.matches

pub returns-clause-taken : goal.returns-clause-taken
unfolding takes_words
returns-clause-taken c =
    let rows = c.options-option-items.result.now in
    let made = whole (app_of c.loop-option.command) rows c.loop-option.option-index (omega arith) c.loop-option.invariant in
    let texts = map string_bytes c.args.words.now in
    taken_by (fault_of command texts) c.try_get_matches_from.result
    (of_command (app_of c.loop-option.command) texts c.try_get_matches_from.result made c.try_get_matches_from.ensures.kinds)

pub returns-clause-refused : goal.returns-clause-refused
unfolding takes_words
returns-clause-refused c =
    let rows = c.options-option-items.result.now in
    let made = whole (app_of c.loop-option.command) rows c.loop-option.option-index (omega arith) c.loop-option.invariant in
    let texts = map string_bytes c.args.words.now in
    refused_by (fault_of command texts) c.try_get_matches_from.result
    (of_command (app_of c.loop-option.command) texts c.try_get_matches_from.result made c.try_get_matches_from.ensures.kinds)
