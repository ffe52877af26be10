-- How a history grows, and what of it concerns one client.
use Rattle.std.proofs.Common.{◌≡◌, ℕ, Bool, true, false, List, [], ◌∷◌, ◌++◌, refl, sym, ap, ◌∙◌, append_assoc}
use Rattle.std.specs.Prelude.{if◌then◌else◌, ◌==◌}
use Rattle.std.proofs.lemmas.List.{append-nil}
use Rattle.session_turns.specs.Histories.{Answer, Rules, events_of, answers_behind, own, answers}
use Rattle.session_turns.specs.Growth.{Adds}
use Rattle.session_turns.proofs.Lists.{events_of-append}

pub own-append : {N E : Type 0} (r : Rules N E) (k : ℕ) (a b : List N) → own r k (a ++ b) ≡ own r k a ++ own r k b
own-append r k [] b = refl
own-append r k (n ∷ a) b =
    elim (r.maker n == k) as (λ t. (if t then r.event n ∷ own r k (a ++ b) else own r k (a ++ b)) ≡ (if t then r.event n ∷ own r k a else own r k a) ++ own r k b)
    [ true ↦ ap (λ x. r.event n ∷ x) (own-append r k a b) | false ↦ own-append r k a b ]

pub answers_behind-append : {N E : Type 0} (r : Rules N E) (k : ℕ) (w a b : List N) → answers_behind r k w (a ++ b) ≡ answers_behind r k w a ++ answers_behind r k (w ++ a) b
answers_behind-append r k w [] b = ap (λ q. answers_behind r k q b) (sym (append-nil w))
answers_behind-append r k w (n ∷ a) b =
    let later : answers_behind r k (w ++ n ∷ []) (a ++ b) ≡ answers_behind r k (w ++ n ∷ []) a ++ answers_behind r k (w ++ n ∷ a) b =
    answers_behind-append r k (w ++ n ∷ []) a b ∙ ap (λ q. answers_behind r k (w ++ n ∷ []) a ++ answers_behind r k q b) (append_assoc w (n ∷ []) a) in
    elim (r.maker n == k) as (λ t. (if t then r.answer w n ++ answers_behind r k (w ++ n ∷ []) (a ++ b) else answers_behind r k (w ++ n ∷ []) (a ++ b))
    ≡ (if t then r.answer w n ++ answers_behind r k (w ++ n ∷ []) a else answers_behind r k (w ++ n ∷ []) a) ++ answers_behind r k (w ++ n ∷ a) b) [
      | true ↦ ap (λ x. r.answer w n ++ x) later ∙ sym (append_assoc (r.answer w n) (answers_behind r k (w ++ n ∷ []) a) (answers_behind r k (w ++ n ∷ a) b))
      | false ↦ later
    ]

others_step : {E : Type 0} (t : Bool) (e : E) (es : List E) (g h : List (Answer E)) → (es ≡ [] → h ≡ []) → (if t then e ∷ es else es) ≡ [] → (if t then g ++ h else h) ≡ []
others_step true e es g h f d = cc
others_step false e es g h f d = f d

-- entries of others give a client nothing
pub answers_behind-others : {N E : Type 0} (r : Rules N E) (k : ℕ) (w a : List N) → own r k a ≡ [] → answers_behind r k w a ≡ []
answers_behind-others r k w [] e = refl
answers_behind-others r k w (n ∷ a) e =
    others_step (r.maker n == k) (r.event n) (own r k a) (r.answer w n) (answers_behind r k (w ++ n ∷ []) a) (answers_behind-others r k (w ++ n ∷ []) a) e

-- nothing was added
pub adds-none : {N E : Type 0} (r : Rules N E) (k : ℕ) (h : List N) → Adds r k h h []
adds-none r k h = record { more = []; grows = sym (append-nil h); answered = refl; events = refl }

-- entries of others were added
pub adds-others : {N E : Type 0} (r : Rules N E) (k : ℕ) (h m : List N) → own r k m ≡ [] → Adds r k h (h ++ m) []
adds-others r k h m e = record { more = m; grows = refl; answered = answers_behind-others r k h m e; events = e }

-- an entry of the client's own was added
pub adds-own : {N E : Type 0} (r : Rules N E) (k : ℕ) (h : List N) (n : N) → (r.maker n == k) ≡ true → events_of (r.answer h n) ≡ r.event n ∷ [] → Adds r k h (h ++ n ∷ []) (r.answer h n)
adds-own r k h n e f = record {
  more = n ∷ [];
  grows = refl;
  answered = rw e (append-nil (r.answer h n));
  events = rw e (sym f);
}

-- one growth after another
pub adds-append : {N E : Type 0} (r : Rules N E) (k : ℕ) (a b c : List N) (g h : List (Answer E)) → Adds r k a b g → Adds r k b c h → Adds r k a c (g ++ h)
adds-append r k a b c g h x y = record {
  more = x.more ++ y.more;
  grows = y.grows ∙ ap (λ q. q ++ y.more) x.grows ∙ append_assoc a x.more y.more;
  answered = answers_behind-append r k a x.more y.more
      ∙ ap (λ q. q ++ answers_behind r k (a ++ x.more) y.more) x.answered
      ∙ ap (λ q. g ++ answers_behind r k q y.more) (sym x.grows)
      ∙ ap (λ q. g ++ q) y.answered;
  events = own-append r k x.more y.more ∙ ap (λ q. q ++ own r k y.more) x.events ∙ ap (λ q. events_of g ++ q) y.events ∙ sym (events_of-append g h);
}

-- a whole history that began with nothing
pub adds-answers : {N E : Type 0} (r : Rules N E) (k : ℕ) (h : List N) (g : List (Answer E)) → Adds r k [] h g → answers r k h ≡ g
adds-answers r k h g x = ap (answers_behind r k []) x.grows ∙ x.answered

pub adds-own_events : {N E : Type 0} (r : Rules N E) (k : ℕ) (h : List N) (g : List (Answer E)) → Adds r k [] h g → own r k h ≡ events_of g
adds-own_events r k h g x = ap (own r k) x.grows ∙ x.events

-- the client's leaving, which has no answer
pub leave-answers : {N E : Type 0} (r : Rules N E) (k : ℕ) (h : List N) (n : N) → (r.maker n == k) ≡ true → r.answer h n ≡ [] → answers r k (h ++ n ∷ []) ≡ answers r k h
leave-answers r k h n e f = answers_behind-append r k [] h (n ∷ []) ∙ ap (λ q. answers r k h ++ q) (by e f) ∙ append-nil (answers r k h)
  where
    by : (r.maker n == k) ≡ true → r.answer h n ≡ [] → answers_behind r k h (n ∷ []) ≡ []
    by e f = rw (e, f) refl

pub leave-own : {N E : Type 0} (r : Rules N E) (k : ℕ) (h : List N) (n : N) → (r.maker n == k) ≡ true → own r k (h ++ n ∷ []) ≡ own r k h ++ r.event n ∷ []
leave-own r k h n e = own-append r k h (n ∷ []) ∙ ap (λ q. own r k h ++ q) (by e)
  where
    by : (r.maker n == k) ≡ true → own r k (n ∷ []) ≡ r.event n ∷ []
    by e = rw e refl
