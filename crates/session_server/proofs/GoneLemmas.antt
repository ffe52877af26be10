-- Who has gone has no entry any more.
use Rattle.std.proofs.Common.{◌≡◌, ◌⊎◌, inl, inr, ℕ, Bool, true, false, List, [], ◌∷◌, ◌++◌, length, refl, sym, ◌∙◌, arith}
use Rattle.std.specs.Prelude.{if◌then◌else◌, ◌&&◌, ◌==◌}
use Rattle.std.specs.List.{list_any}
use Rattle.session_turns.specs.Histories.{own}
use Rattle.session_events.specs.declared.event.Entry.{Entry}
use Rattle.session_events.specs.declared.kind.Kind.{Kind}
use Rattle.session_events.specs.declared.kind.Kind.TheVariants.{Coming, Doing, Drawing, Going}
use Rattle.session_events.specs.Entries.{kind_of}
use Rattle.session_events.specs.Legal.{Away, Here, Gone, is_here, presence_after, may_make, presence_from, may_make_all, IsLegal}
use Rattle.session_events.specs.Meaning.{Gives, rules}
use Rattle.session_events.specs.Counting.{here_among}
use Rattle.session_events.proofs.CountingLemmas.{here-present}
use Rattle.session_server.specs.Sessions.{AllWent}

module _ (g : Gives) (who : ℕ) where
  -- who has gone makes nothing
  gone-none : (h : List Entry) → may_make_all who Gone h ≡ true → own (rules g) who h ≡ []
  gone-none [] m = refl
  gone-none (e ∷ h) m = by (e.who == who) (gone-none h) m
    where
      by : (t : Bool) → (may_make_all who Gone h ≡ true → own (rules g) who h ≡ []) → (if t then false && may_make_all who (presence_after (kind_of e.event) Gone) h else may_make_all who Gone h) ≡ true → (if t then e.event ∷ own (rules g) who h else own (rules g) who h) ≡ []
      by true next m = cc
      by false next m = next m

  gone-rest : (f rest : List Entry) → may_make_all who Gone (f ++ rest) ≡ true → own (rules g) who rest ≡ []
  gone-rest [] rest m = gone-none rest m
  gone-rest (e ∷ f) rest m = by (e.who == who) (gone-rest f rest) m
    where
      by : (t : Bool) → (may_make_all who Gone (f ++ rest) ≡ true → own (rules g) who rest ≡ []) → (if t then false && may_make_all who (presence_after (kind_of e.event) Gone) (f ++ rest) else may_make_all who Gone (f ++ rest)) ≡ true → own (rules g) who rest ≡ []
      by true next m = cc
      by false next m = next m

  -- who is here and goes among some entries makes nothing behind them
  here-rest : (f rest : List Entry) → is_here (presence_from who Here f) ≡ false → may_make_all who Here (f ++ rest) ≡ true → own (rules g) who rest ≡ []
  here-rest [] rest here m = cc
  here-rest (e ∷ f) rest here m = by (e.who == who) (kind_of e.event) (here-rest f rest) here m
    where
      by : (t : Bool) (kind : Kind) → (is_here (presence_from who Here f) ≡ false → may_make_all who Here (f ++ rest) ≡ true → own (rules g) who rest ≡ []) → is_here (presence_from who (if t then presence_after kind Here else Here) f) ≡ false
          → (if t then may_make Here kind && may_make_all who (presence_after kind Here) (f ++ rest) else may_make_all who Here (f ++ rest)) ≡ true → own (rules g) who rest ≡ []
      by false kind next here m = next here m
      by true Coming next here m = cc
      by true Doing next here m = next here m
      by true Drawing next here m = next here m
      by true Going next here m = gone-rest f rest m

  -- who isn't here behind some entries has none of them, or makes nothing behind them
  away-rest : (f rest : List Entry) → is_here (presence_from who Away f) ≡ false → may_make_all who Away (f ++ rest) ≡ true → (own (rules g) who f ≡ []) ⊎ (own (rules g) who rest ≡ [])
  away-rest [] rest here m = inl refl
  away-rest (e ∷ f) rest here m = by (e.who == who) (kind_of e.event) (away-rest f rest) here m
    where
      by : (t : Bool) (kind : Kind) → (is_here (presence_from who Away f) ≡ false → may_make_all who Away (f ++ rest) ≡ true → (own (rules g) who f ≡ []) ⊎ (own (rules g) who rest ≡ [])) → is_here (presence_from who (if t then presence_after kind Away else Away) f) ≡ false
          → (if t then may_make Away kind && may_make_all who (presence_after kind Away) (f ++ rest) else may_make_all who Away (f ++ rest)) ≡ true
          → ((if t then e.event ∷ own (rules g) who f else own (rules g) who f) ≡ []) ⊎ (own (rules g) who rest ≡ [])
      by false kind next here m = next here m
      by true Coming next here m = inr (here-rest f rest here m)
      by true Doing next here m = cc
      by true Drawing next here m = cc
      by true Going next here m = cc

pub stays-away : (g : Gives) (limit : ℕ) (front rest : List Entry) (who : ℕ) → IsLegal limit (front ++ rest) → AllWent front → (own (rules g) who front ≡ []) ⊎ (own (rules g) who rest ≡ [])
stays-away g limit front rest who legal went = away-rest g who front rest (sym (here-present who front) ∙ nobody (here_among front) went.none) (legal.lives who)
  where
    nobody : (here : List ℕ) → length here ≡ 0 → list_any (λ number. number == who) here ≡ false
    nobody [] e = refl
    nobody (x ∷ here) e = absurd (omega (arith, e))
