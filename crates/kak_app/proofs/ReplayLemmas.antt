-- How a replay is what its status says.
use Rattle.std.proofs.Common.{◌≡◌, ℕ, ◌+◌, ◌<◌, ◌≤◌, inl, inr, Bool, true, false, ◌==◌, List, [], ◌∷◌, ◌++◌, length, map, drop, get_or, Ok, Err, None, subst, refl, sym, ap, ◌∙◌, arith}
use Rattle.std.proofs.lemmas.Bool.{eqb-true}
use Rattle.std.specs.Prelude.{◌&&◌, nat_le}
use Rattle.std.specs.List.{list_all, flat_map}
use Rattle.std.proofs.lemmas.List.{length-map, drop_more, drop_all}
use Rattle.std.specs.declared.result.Result.{Result}
use Rattle.kak_ports.specs.Ports.{Inlet, Outlet}
use Rattle.ui_board.specs.declared.ui.Kind.{Kind}
use Rattle.ui_board.specs.Told.{Told, Shown, report_of}
use Rattle.session_replay.specs.Players.{told_by_all}
use Rattle.session_events.specs.declared.event.Entry.{Entry}
use Rattle.json_ui.specs.Requests.{read_request}
use Rattle.session_replay.specs.Settings.{Setting, setting}
use Rattle.session_lines.specs.declared.playing.Stop.{Stop}
use Rattle.session_lines.specs.declared.playing.Stop.TheVariants as stop
use Rattle.session_replay.specs.declared.ends.ReplayEnd.{ReplayEnd}
use Rattle.session_replay.specs.declared.ends.ReplayEnd.TheVariants as ending
use Rattle.session_replay.specs.Replays.{WasReplayed, IsReplayed, Replay, Reports, ReplayFaultIs}
use Rattle.session_replay.proofs.AnswerLemmas.{nothing-replayed}
use Rattle.session_events.specs.Legal.{IsLegal}
use Rattle.std.specs.declared.option.Option.{Option}
use Rattle.kak_engine.specs.Steps.{given_by, AllAsked}
use Rattle.session_events.specs.declared.limits.TheConstants.{MAX_ENTRIES}
use Rattle.kak_app.specs.Runs.{Around, OutsideIs}
use Rattle.kak_app.specs.Replays.{Replayed, says_kind, say_kinds, is_ui_count, is_replay_call}
use Rattle.kak_app.proofs.RunLemmas.{nothing-legal, lost-first}

-- nothing was played, since memory was wanting
pub nothing-played : (kinds : List Kind) (boxes : ℕ → Option Shown) (a : Around) → Replayed kinds boxes (Err stop.NoMemory) a a
nothing-played kinds boxes a = record {
  history = [];
  legal = nothing-legal MAX_ENTRIES;
  replayed = nothing-replayed (setting given_by read_request) MAX_ENTRIES kinds boxes [] a.inlet a.outlet refl;
  asked = tt;
  honest = lost-first a.outside;
  fault = inl refl;
}

-- lines were replayed
pub lines-replayed : (kinds : List Kind) (boxes : ℕ → Option Shown) (r : Result ReplayEnd Stop) (limit after : ℕ) (h : List Entry) (a b : Around) → limit ≡ MAX_ENTRIES → after ≡ limit → IsLegal after h
    → WasReplayed (setting given_by read_request) limit kinds boxes h a.inlet b.inlet a.outlet b.outlet r → ReplayFaultIs r a.inlet b.inlet → AllAsked h → OutsideIs r h a.outside b.outside → Replayed kinds boxes r a b
lines-replayed kinds boxes r limit after h a b most same l w f asked honest = record {
  history = h;
  legal = subst (λ n. IsLegal n h) (same ∙ most) l;
  replayed = subst (λ n. WasReplayed (setting given_by read_request) n kinds boxes h a.inlet b.inlet a.outlet b.outlet r) most w;
  asked = asked;
  honest = honest;
  fault = f;
}

-- a replay whose session broke is as lost as one without memory
lost-as : (replay : Replay) (at : ℕ) (left : Inlet) (bytes : List ℕ) → IsReplayed replay (Err (stop.Broken at)) left bytes → IsReplayed replay (Err stop.NoMemory) left bytes
lost-as replay at left bytes r = record { first = r.first; order = r.order; strangers = r.strangers; ends = r.ends }

broken-lost : (g : Setting) (limit : ℕ) (kinds : List Kind) (boxes : ℕ → Option Shown) (h : List Entry) (left rest : Inlet) (before now : Outlet) (at : ℕ) → WasReplayed g limit kinds boxes h left rest before now (Err (stop.Broken at)) → WasReplayed g limit kinds boxes h left rest before now (Err stop.NoMemory)
broken-lost g limit kinds boxes h left rest before now at w = by w.ended w.replayed w.reports
  where
    lost : (at : ℕ) → IsReplayed (record { with = g; limit = limit; lines = w.lines; history = h; shown = w.shown }) (Err (stop.Broken at)) left w.bytes → now ≡ before → WasReplayed g limit kinds boxes h left rest before now (Err stop.NoMemory)
    lost at r same = record { bytes = w.bytes; takes = w.takes; few = w.few; lines = w.lines; shown = w.shown; kinds_are = w.kinds_are; ended = Err stop.NoMemory; boxes_are = tt; replayed = lost-as _ at left w.bytes r; reports = (refl, same) }

    by : (ended : Result ReplayEnd Stop) → IsReplayed (record { with = g; limit = limit; lines = w.lines; history = h; shown = w.shown }) ended left w.bytes → Reports ended (Err (stop.Broken at)) before now (flat_map report_of w.shown) → WasReplayed g limit kinds boxes h left rest before now (Err stop.NoMemory)
    by (Err (stop.Broken at)) r q = lost at r q.1
    by (Err stop.NoMemory) r q = let e = q.0 in cc
    by (Err stop.HistoryFull) r (inl q) = let e = q.0 in cc
    by (Err stop.HistoryFull) r (inr q) = let e = q.0 in cc
    by (Err stop.WriteFault) r (inl q) = let e = q.0 in cc
    by (Err stop.WriteFault) r (inr q) = let e = q.0 in cc
    by (Ok ending.Over) r (inl q) = let e = q.0 in cc
    by (Ok ending.Over) r (inr q) = let e = q.0 in cc
    by (Ok ending.Ended) r (inl q) = let e = q.0 in cc
    by (Ok ending.Ended) r (inr q) = let e = q.0 in cc
    by (Ok ending.BadClient) r (inl q) = let e = q.0 in cc
    by (Ok ending.BadClient) r (inr q) = let e = q.0 in cc
    by (Ok ending.ReadFault) r (inl q) = let e = q.0 in cc
    by (Ok ending.ReadFault) r (inr q) = let e = q.0 in cc
    by (Ok ending.Full) r (inl q) = let e = q.0 in cc
    by (Ok ending.Full) r (inr q) = let e = q.0 in cc

pub broken-replayed : (kinds : List Kind) (boxes : ℕ → Option Shown) (at : ℕ) (a b : Around) → Replayed kinds boxes (Err (stop.Broken at)) a b → Replayed kinds boxes (Err stop.NoMemory) a b
broken-replayed kinds boxes at a b r = record {
  history = r.history;
  legal = r.legal;
  replayed = broken-lost (setting given_by read_request) MAX_ENTRIES kinds boxes r.history a.inlet b.inlet a.outlet b.outlet at r.replayed;
  asked = r.asked;
  honest = r.honest;
  fault = r.fault;
}

-- the program may be called by words that say the kinds of the user interfaces, where their number fits, and by no others
module _ {W U : Type 0} (f : W → List ℕ) (k : U → Kind) (words : List W) (uis : List U) where
  counts : is_ui_count (length uis) (length words) ≡ is_ui_count (length (map k uis)) (length (map f words))
  counts = ap (λ n. is_ui_count n (length words)) (sym (length-map uis k)) ∙ ap (is_ui_count (length (map k uis))) (sym (length-map words f))

  pub call-fits : (r : Bool) → true ≡ is_ui_count (length uis) (length words) → r ≡ say_kinds (map f words) (map k uis) → r ≡ is_replay_call (map f words) (map k uis)
  call-fits r c e = e ∙ ap (λ b. b && say_kinds (map f words) (map k uis)) (c ∙ counts)

  pub call-fails : false ≡ is_ui_count (length uis) (length words) → false ≡ is_replay_call (map f words) (map k uis)
  call-fails c = ap (λ b. b && say_kinds (map f words) (map k uis)) (c ∙ counts)

  module _ (n : ℕ) (x : W) (y : U) (i : n < length words) (j : n < length uis) (here : x ≡ get_or words n x) (there : y ≡ get_or uis n y) where
    kinds-at : say_kinds (map f (drop n words)) (map k (drop n uis)) ≡ (says_kind (f x) (k y) && say_kinds (map f (drop (n + 1) words)) (map k (drop (n + 1) uis)))
    kinds-at =
        ap (λ ws. say_kinds (map f ws) (map k (drop n uis))) (drop_more words n x i ∙ ap (λ w. w ∷ drop (n + 1) words) (sym here))
        ∙ ap (λ us. say_kinds (f x ∷ map f (drop (n + 1) words)) (map k us)) (drop_more uis n y j ∙ ap (λ u. u ∷ drop (n + 1) uis) (sym there))

    -- one word more says the kind of its user interface, or doesn't
    pub kinds-more : says_kind (f x) (k y) ≡ true → say_kinds (map f (drop n words)) (map k (drop n uis)) ≡ say_kinds (map f words) (map k uis)
        → say_kinds (map f (drop (n + 1) words)) (map k (drop (n + 1) uis)) ≡ say_kinds (map f words) (map k uis)
    kinds-more said h = sym (kinds-at ∙ ap (λ b. b && say_kinds (map f (drop (n + 1) words)) (map k (drop (n + 1) uis))) said) ∙ h

    pub kinds-differ : says_kind (f x) (k y) ≡ false → say_kinds (map f (drop n words)) (map k (drop n uis)) ≡ say_kinds (map f words) (map k uis) → false ≡ say_kinds (map f words) (map k uis)
    kinds-differ said h = sym (kinds-at ∙ ap (λ b. b && say_kinds (map f (drop (n + 1) words)) (map k (drop (n + 1) uis))) said) ∙ h

  -- no word is left
  pub kinds-last : (n : ℕ) → length words ≤ n → length uis ≡ length words → say_kinds (map f (drop n words)) (map k (drop n uis)) ≡ say_kinds (map f words) (map k uis) → true ≡ say_kinds (map f words) (map k uis)
  kinds-last n le same h =
      sym (ap (λ ws. say_kinds (map f ws) (map k (drop n uis))) (drop_all n words le) ∙ ap (λ us. say_kinds [] (map k us)) (drop_all n uis (omega (arith, le, same)))) ∙ h

-- a number that fits is that of the words
same-count : (a b : Bool) (count words : ℕ) → (a && b && count == words) ≡ true → count ≡ words
same-count true true count words e = eqb-true count words e
same-count true false count words e = let no : false ≡ true = e in cc
same-count false b count words e = let no : false ≡ true = e in cc

pub count-fits : (count words : ℕ) → true ≡ is_ui_count count words → count ≡ words
count-fits count words e = same-count (nat_le 1 words) (nat_le words 64) count words (sym e)

new-front : (t : Bool) (told : List Told) (rest : List Told) → (length told == 0) ≡ t → (t ≡ true → rest ≡ []) → t ≡ true → told ++ rest ≡ []
new-front t told rest is later e = ap (λ q. q ++ rest) (by told (eqb-true (length told) 0 (is ∙ e))) ∙ later e
  where
    by : (told : List Told) → length told ≡ 0 → told ≡ []
    by [] e = refl
    by (x ∷ told) e = absurd (omega (arith, e))

left : (a b : Bool) → (a && b) ≡ true → a ≡ true
left true b e = refl
left false b e = e

right : (a b : Bool) → (a && b) ≡ true → b ≡ true
right true b e = e
right false b e = let no : false ≡ true = e in cc

-- where each is new, none was told anything
pub all-new : {B : Type 0} (shown : B → Shown) (uis : List B) → list_all (λ ui. length (shown ui).told == 0) uis ≡ true → told_by_all shown uis ≡ []
all-new shown [] e = refl
all-new shown (ui ∷ uis) e =
    let one : Bool = length (shown ui).told == 0 in
    let more : Bool = list_all (λ ui. length (shown ui).told == 0) uis in
    new-front one (shown ui).told (told_by_all shown uis) refl (λ o. all-new shown uis (right one more e)) (left one more e)

none-front : (told rest : List Told) → told ++ rest ≡ [] → (told ≡ []) × (rest ≡ [])
none-front [] rest e = (refl, e)
none-front (x ∷ told) rest e = let no : x ∷ (told ++ rest) ≡ [] = e in cc

both-new : (told : List Told) (more : Bool) → told ≡ [] → (length told == 0 && more) ≡ more
both-new told more e = rw e refl

-- and where one isn't, something was told
pub one-told : {B : Type 0} (shown : B → Shown) (uis : List B) → list_all (λ ui. length (shown ui).told == 0) uis ≡ false → told_by_all shown uis ≡ [] → ⊥
one-told shown [] e none = let no : true ≡ false = e in cc
one-told shown (ui ∷ uis) e none =
    let both = none-front (shown ui).told (told_by_all shown uis) none in
    one-told shown uis (sym (both-new (shown ui).told (list_all (λ ui. length (shown ui).told == 0) uis) both.0) ∙ e) both.1
