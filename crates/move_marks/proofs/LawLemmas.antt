-- A part of a list of plain ranges may be settled first.
use Rattle.std.proofs.Common.{◌≡◌, ℕ, ◌+◌, ◌<◌, List, ◌++◌, length, map, arith}
use Rattle.std.proofs.lemmas.List.{length-map, length-append}
use Rattle.std.specs.List.{AllByRecursion}
use Rattle.list_model.specs.Ranges.{Range, Selected}
use Rattle.list_model.specs.Settling.{settled, each_settled, carried}
use Rattle.list_model.proofs.ListLemmas.{all_weaker, all_map}
use Rattle.list_model.proofs.MoveLemmas.{KeepsOrder}
use Rattle.move_marks.specs.Joining.{IsPlain}
use Rattle.move_marks.specs.Laws.{as_one}
use Rattle.move_marks.proofs.PlainLemmas.{IsSpan, span-settled, span-is, span-list}
use Rattle.move_marks.proofs.JoinLemmas.{all-append, together-append, span-joined, span-carried}

pub plain-carried : (f : ℕ → ℕ) → KeepsOrder f → (xs : List Range) → AllByRecursion IsPlain xs → AllByRecursion IsPlain (map (carried f) xs)
plain-carried f keeps xs h =
    all_map IsPlain (carried f) xs (all_weaker IsPlain (λ x. IsPlain (carried f x)) (λ x p. record { ordered = keeps x.low x.high p.ordered; straight = p.straight; untargeted = p.untargeted }) xs h)

pub settled-before : (s t : Selected) → AllByRecursion IsPlain s.list → AllByRecursion IsPlain t.list → s.main < length s.list → t.main < length t.list → settled (as_one (settled s) (settled t)) ≡ settled (as_one s t)
settled-before s t h k l m =
    let first : IsSpan s.list s.main (settled s).list (settled s).main = span-settled s h l in
    let second : IsSpan t.list t.main (settled t).list (settled t).main = span-settled t k m in
    let main : (settled t).main < length (settled t).list = (span-list t.list (settled t).list t.main (settled t).main k second).main_is in
    let below : length (settled s).list + (settled t).main < length ((settled s).list ++ (settled t).list) = omega (arith, main, length-append (settled s).list (settled t).list) in
    let parts : Selected = as_one (settled s) (settled t) in
    let all : IsSpan parts.list parts.main (settled parts).list (settled parts).main = span-settled parts (all-append IsPlain (settled s).list (settled t).list first.plain second.plain) below in
    span-is (as_one s t) (settled parts) (all-append IsPlain s.list t.list h k) (omega (arith, m, length-append s.list t.list))
    (span-joined s.list t.list (settled s).list (settled t).list parts.list (settled parts).list s.main t.main (settled s).main (settled t).main parts.main (settled parts).main first second (together-append (settled s).list (settled t).list (settled t).main main) all)

pub settled-before-carried : (f : ℕ → ℕ) → KeepsOrder f → (s : Selected) → AllByRecursion IsPlain s.list → s.main < length s.list → each_settled (carried f) (settled s) ≡ each_settled (carried f) s
settled-before-carried f keeps s h l =
    let first : IsSpan s.list s.main (settled s).list (settled s).main = span-settled s h l in
    let main : (settled s).main < length (settled s).list = (span-list s.list (settled s).list s.main (settled s).main h first).main_is in
    let given : Selected = record { list = map (carried f) (settled s).list; main = (settled s).main } in
    let all : IsSpan given.list given.main (settled given).list (settled given).main = span-settled given (plain-carried f keeps (settled s).list first.plain) (omega (arith, main, length-map (settled s).list (carried f))) in
    span-is (record { list = map (carried f) s.list; main = s.main }) (settled given) (plain-carried f keeps s.list h) (omega (arith, l, length-map s.list (carried f)))
    (span-carried f keeps s.list (settled s).list (settled given).list s.main (settled s).main (settled given).main first all)
