-- What a client has missed behind one entry more, and behind entries of others.
use Rattle.std.proofs.Common.{◌≡◌, ℕ, Bool, true, false, ◌||◌, List, [], ◌∷◌, ◌++◌, refl, ap, ◌∙◌}
use Rattle.std.specs.Prelude.{if◌then◌else◌, ◌&&◌, not, ◌==◌}
use Rattle.std.specs.List.{list_any}
use Rattle.session_events.specs.declared.event.Entry.{Entry}
use Rattle.session_events.specs.Entries.{is_drawing}
use Rattle.session_events.specs.Missing.{is_drawing_of, is_news, behind_drawing, has_news}

-- whether any of entries put together is of a kind
any-append : {A : Type 0} (p : A → Bool) (a b : List A) → list_any p (a ++ b) ≡ (list_any p a || list_any p b)
any-append p [] b = refl
any-append p (x ∷ a) b = ap (λ r. p x || r) (any-append p a b) ∙ assoc (p x) (list_any p a) (list_any p b)
  where
    assoc : (x y z : Bool) → (x || (y || z)) ≡ ((x || y) || z)
    assoc true y z = refl
    assoc false y z = refl

-- behind a drawing of the client's nothing stands yet
behind-drawn : (who : ℕ) (a : List Entry) (e : Entry) → is_drawing_of who e ≡ true → behind_drawing who (a ++ e ∷ []) ≡ []
behind-drawn who [] e d = by (is_drawing_of who e) d
  where
    by : (t : Bool) → t ≡ true → (if (t || false) then [] else e ∷ []) ≡ []
    by true f = refl
    by false f = cc
behind-drawn who (x ∷ a) e d = by (is_drawing_of who x || list_any (is_drawing_of who) (a ++ e ∷ [])) found (behind-drawn who a e d)
  where
    or-true : (x y : Bool) → y ≡ true → (x || y) ≡ true
    or-true true y f = refl
    or-true false y f = f

    found : (is_drawing_of who x || list_any (is_drawing_of who) (a ++ e ∷ [])) ≡ true
    found = or-true (is_drawing_of who x) _ (any-append (is_drawing_of who) a (e ∷ []) ∙ or-true (list_any (is_drawing_of who) a) _ (ap (λ (t : Bool). t || false) d))

    by : (t : Bool) → t ≡ true → behind_drawing who (a ++ e ∷ []) ≡ [] → (if t then behind_drawing who (a ++ e ∷ []) else x ∷ (a ++ e ∷ [])) ≡ []
    by true f g = g
    by false f g = cc

-- any other entry stands behind it
behind-other : (who : ℕ) (a : List Entry) (e : Entry) → is_drawing_of who e ≡ false → behind_drawing who (a ++ e ∷ []) ≡ behind_drawing who a ++ e ∷ []
behind-other who [] e d = by (is_drawing_of who e) d
  where
    by : (t : Bool) → t ≡ false → (if (t || false) then [] else e ∷ []) ≡ e ∷ []
    by true f = cc
    by false f = refl
behind-other who (x ∷ a) e d = ap (λ (t : Bool). if t then behind_drawing who (a ++ e ∷ []) else x ∷ (a ++ e ∷ [])) same ∙ by (is_drawing_of who x || list_any (is_drawing_of who) a) (behind-other who a e d)
  where
    or-false : (y z : Bool) → z ≡ false → (y || (z || false)) ≡ y
    or-false true z f = refl
    or-false false z f = ap (λ (t : Bool). t || false) f

    same : (is_drawing_of who x || list_any (is_drawing_of who) (a ++ e ∷ [])) ≡ (is_drawing_of who x || list_any (is_drawing_of who) a)
    same = ap (λ (t : Bool). is_drawing_of who x || t) (any-append (is_drawing_of who) a (e ∷ []) ∙ or-false (list_any (is_drawing_of who) a) (is_drawing_of who e) d)

    by : (t : Bool) → behind_drawing who (a ++ e ∷ []) ≡ behind_drawing who a ++ e ∷ [] → (if t then behind_drawing who (a ++ e ∷ []) else x ∷ (a ++ e ∷ [])) ≡ (if t then behind_drawing who a else x ∷ a) ++ e ∷ []
    by true f = f
    by false f = refl

-- behind an entry that is no drawing there is something to be drawn
pub news-new : (who : ℕ) (a : List Entry) (e : Entry) → is_drawing e.event ≡ false → has_news who (a ++ e ∷ []) ≡ true
news-new who a e d = ap (list_any is_news) (behind-other who a e (and-false (e.who == who) (is_drawing e.event) d)) ∙ any-append is_news (behind_drawing who a) (e ∷ []) ∙ by (list_any is_news (behind_drawing who a)) (is_drawing e.event) d
  where
    and-false : (x y : Bool) → y ≡ false → (x && y) ≡ false
    and-false true y f = f
    and-false false y f = refl

    by : (x y : Bool) → y ≡ false → (x || (not y || false)) ≡ true
    by x true f = cc
    by true false f = refl
    by false false f = refl

-- behind the client's own drawing there is nothing to be drawn
pub news-drawn : (who : ℕ) (a : List Entry) (e : Entry) → is_drawing e.event ≡ true → (e.who == who) ≡ true → has_news who (a ++ e ∷ []) ≡ false
news-drawn who a e d own = ap (list_any is_news) (behind-drawn who a e (and-true (e.who == who) (is_drawing e.event) own d))
  where
    and-true : (x y : Bool) → x ≡ true → y ≡ true → (x && y) ≡ true
    and-true true y f g = g
    and-true false y f g = cc

-- a drawing of another changes nothing
pub news-other : (who : ℕ) (a : List Entry) (e : Entry) → is_drawing e.event ≡ true → (e.who == who) ≡ false → has_news who (a ++ e ∷ []) ≡ has_news who a
news-other who a e d other = ap (list_any is_news) (behind-other who a e (and-false (e.who == who) (is_drawing e.event) other)) ∙ any-append is_news (behind_drawing who a) (e ∷ []) ∙ by (has_news who a) (is_drawing e.event) d
  where
    and-false : (x y : Bool) → x ≡ false → (x && y) ≡ false
    and-false true y f = cc
    and-false false y f = refl

    by : (x y : Bool) → y ≡ true → (x || (not y || false)) ≡ x
    by true true f = refl
    by false true f = refl
    by x false f = cc
