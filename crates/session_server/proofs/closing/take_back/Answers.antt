use Rattle.std.proofs.Common.{rules, ◌≡◌, ◌++◌, List, [], ◌∷◌, length, map, refl, sym, ◌∙◌, ap, subst, arith, append-nil}
use Rattle.std.specs.Prelude.{IfOk, IsOkAnd, Ok, Err}
use Rattle.std.specs.declared.result.Result.{Result}
use Rattle.std.specs.Vec.Iter.{into_iter_items}
use Rattle.std.proofs.lemmas.List.{map-append}
use Rattle.std.proofs.lemmas.List.Elements.{All-rest, All-same}
use Rattle.jobs.proofs.MeetLemmas.{grows}
use Rattle.session_desk.specs.Tokens.{DeskPlace, IsOf, PassView}
use Rattle.session_desk.proofs.HistoryLemmas.{starts_itself, starts_through}
use Rattle.session_events.specs.declared.event.Entry.{Entry}
use Rattle.link_lines.specs.declared.ended.Ended.{Ended}
use Rattle.engine_desk.specs.Sharing.{Frame}
use Rattle.session_server.specs.Hosting.{noted, serving_end}
use Rattle.session_server.proofs.SessionLemmas.{keeps-itself, keeps-first, noted-one, of-next}
use Rattle.session_server.proofs.closing.take_back.Goals as goal

all-done : {B : Type 0} (done rest all : List B) → done ++ rest ≡ all → length rest ≡ 0 → done ≡ all
all-done done [] all e none = sym (append-nil done) ∙ e
all-done done (next ∷ rest) all e none = absurd (omega (arith, none))

-- ends with one more behind them
ends-more : {V E A : Type 0} (items : V → List A) (old new : Result V E) (before now : List A) (one : A) → IfOk new (λ all. IsOkAnd old (λ some. items all ≡ items some ++ one ∷ [])) → IfOk old (λ some. items some ≡ before) → now ≡ before ++ one ∷ [] → IfOk new (λ all. items all ≡ now)
ends-more items (Ok some) (Ok all) before now one e i same = e ∙ ap (λ q. q ++ one ∷ []) i ∙ sym same
ends-more items (Err error) (Ok all) before now one e i same = absurd e
ends-more items old (Err error) before now one e i same = tt

pub loop-ended-init : goal.loop-ended-init
loop-ended-init g c = record { place = refl; made = refl; begins = starts_itself _; mark = keeps-itself _; results = refl; left = search rules; given = sym (append-nil _); ends = c.new.ensures.items; places = All-same (λ r. r.1.place ≡ c.args.keeper.now.place) _ _ c.into_iter-ended-iterator.ensures.into_iter_gives.0 c.requires.places }

pub leave-requires-clause-pass : goal.leave-requires-clause-pass
leave-requires-clause-pass g c =
    let same = of-next (λ r. r.1.place ≡ c.args.keeper.now.place) _ _ _ c.in-Some.ensures.steps.0 c.loop-ended.invariant.places in
    subst (λ (p : DeskPlace Frame). IsOf p c.args.desk.now) (sym same) c.requires.own

pub loop-ended-preserved : goal.loop-ended-preserved
loop-ended-preserved g c =
    let i = c.loop-ended.invariant in let e = c.leave.ensures in let step = c.in-Some.ensures.steps.0 in
    let one : Ended × PassView Entry Frame × g.row.S.Denot = (c.in-Some.ended, c.in-Some.pass, c.in-Some.closed) in record {
      place = e.place ∙ i.place;
      made = e.made ∙ i.made;
      begins = starts_through _ _ _ e.begins i.begins;
      mark = keeps-first _ _ _ _ i.mark e.mark;
      results = grows _ _ _ _ one i.results step;
      left = omega (arith, i.left, ap length step, c.in-Some.ensures.steps.1);
      given = noted-one (noted {S = g.row.S.Denot}) _ _ _ c.loop-ended.yielded one e.given i.given;
      ends = ends-more (λ all. all.items) c.loop-ended.ends c.with_end-ends.result _ _ (serving_end {S = g.row.S.Denot} one) c.with_end-ends.ensures i.ends (map-append (serving_end {S = g.row.S.Denot}) c.loop-ended.yielded (one ∷ []));
      places = All-rest (λ r. r.1.place ≡ c.args.keeper.now.place) one _ _ step i.places;
    }

pub returns-clause-given : goal.returns-clause-given
returns-clause-given g c =
    let i = c.loop-ended.invariant in
    let all = all-done c.loop-ended.yielded (into_iter_items c.loop-ended.ended-iterator) c.args.results.items (sym i.results ∙ c.into_iter-ended-iterator.ensures.into_iter_gives.0) (sym i.left ∙ c.in-None.ensures.steps.0) in
    i.given ∙ ap (λ (links : List (Ended × PassView Entry Frame × g.row.S.Denot)). c.args.keeper.now.given ++ map (noted {S = g.row.S.Denot}) links) all
