-- Laws of answers, events and bytes along a list that is put together.
use Rattle.std.proofs.Common.{◌≡◌, ℕ, zero, suc, Bool, true, false, ◌||◌, List, [], ◌∷◌, ◌++◌, length, take, drop, refl, sym, ap, ◌∙◌, append_assoc}
use Rattle.std.proofs.lemmas.List.{map-append, take-append-drop, length-map, drop_at}
use Rattle.session_turns.specs.Histories.{Answer, events_of, bytes_of, is_leaving}

pub events_of-append : {E : Type 0} (a b : List (Answer E)) → events_of (a ++ b) ≡ events_of a ++ events_of b
events_of-append a b = map-append _ a b

pub bytes_of-append : {E : Type 0} (a b : List (Answer E)) → bytes_of (a ++ b) ≡ bytes_of a ++ bytes_of b
bytes_of-append [] b = refl
bytes_of-append (x ∷ a) b = ap (λ r. x.bytes ++ r) (bytes_of-append a b) ∙ sym (append_assoc x.bytes (bytes_of a) (bytes_of b))

or-assoc : (x y z : Bool) → (x || (y || z)) ≡ ((x || y) || z)
or-assoc true y z = refl
or-assoc false y z = refl

pub is_leaving-append : {E : Type 0} (a b : List (Answer E)) → is_leaving (a ++ b) ≡ (is_leaving a || is_leaving b)
is_leaving-append [] b = refl
is_leaving-append (x ∷ a) b = ap (λ r. x.leaving || r) (is_leaving-append a b) ∙ or-assoc x.leaving (is_leaving a) (is_leaving b)

pub length-events_of : {E : Type 0} (a : List (Answer E)) → length (events_of a) ≡ length a
length-events_of a = length-map a _

or_left : (x y : Bool) → (x || y) ≡ false → x ≡ false
or_left true y e = e
or_left false y e = refl

or_right : (x y : Bool) → (x || y) ≡ false → y ≡ false
or_right true y e = let no : true ≡ false = e in cc
or_right false y e = e

-- the parts of answers with which no client may leave
pub stays_front : {E : Type 0} (n : ℕ) (a : List (Answer E)) → is_leaving a ≡ false → is_leaving (take n a) ≡ false
stays_front n a e = or_left (is_leaving (take n a)) (is_leaving (drop n a)) (sym (is_leaving-append (take n a) (drop n a)) ∙ ap is_leaving (take-append-drop n a) ∙ e)

pub stays_rest : {E : Type 0} (n : ℕ) (a : List (Answer E)) → is_leaving a ≡ false → is_leaving (drop n a) ≡ false
stays_rest n a e = or_right (is_leaving (take n a)) (is_leaving (drop n a)) (sym (is_leaving-append (take n a) (drop n a)) ∙ ap is_leaving (take-append-drop n a) ∙ e)

-- the events of the rest, where those of the front are known
pub events_of-drop : {E : Type 0} (n : ℕ) (a : List (Answer E)) (xs ys : List E) → length xs ≡ n → events_of a ≡ xs ++ ys → events_of (drop n a) ≡ ys
events_of-drop n a xs ys len e = map-drop n a ∙ ap (drop n) e ∙ drop_at xs ys n len
  where
    map-drop : {E : Type 0} (n : ℕ) (a : List (Answer E)) → events_of (drop n a) ≡ drop n (events_of a)
    map-drop zero a = refl
    map-drop (suc n) [] = refl
    map-drop (suc n) (x ∷ a) = map-drop n a
