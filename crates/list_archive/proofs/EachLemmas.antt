-- What holds of each of some lists, and what each of them is made.
use Rattle.std.proofs.Common.{◌≡◌, ℕ, List, [], ◌∷◌, map, refl, ap, ap₂}
use Rattle.std.specs.List.{AllByRecursion}
use Rattle.list_archive.specs.Trails.{Trail, Mark, trail_with, mark_with}

-- all of a trail, of some trails, and of some marks
abbrev pub AllOn : {A : Type 0} → (A → Type 0) → Trail A → Type 0
AllOn P t = AllByRecursion P t.past × AllByRecursion P t.ahead

abbrev pub AllOnTrails : {A : Type 0} → (A → Type 0) → List (Trail A) → Type 0
AllOnTrails P ts = AllByRecursion (AllOn P) ts

abbrev pub AllOnMarks : {A : Type 0} → (A → Type 0) → List (Mark A) → Type 0
AllOnMarks P ms = AllByRecursion (λ m. P m.list) ms

-- what holds of each, where one thing leads to another

pub each : {A : Type 0} (P Q : A → Type 0) (xs : List A) → ((x : A) → P x → Q x) → AllByRecursion P xs → AllByRecursion Q xs
each P Q [] f a = tt
each P Q (x ∷ xs) f a = (f x a.0, each P Q xs f a.1)

pub each-trail : {A : Type 0} (P Q : A → Type 0) (ts : List (Trail A)) → ((x : A) → P x → Q x) → AllOnTrails P ts → AllOnTrails Q ts
each-trail P Q ts f a = each (AllOn P) (AllOn Q) ts (λ t h. (each P Q t.past f h.0, each P Q t.ahead f h.1)) a

pub each-mark : {A : Type 0} (P Q : A → Type 0) (ms : List (Mark A)) → ((x : A) → P x → Q x) → AllOnMarks P ms → AllOnMarks Q ms
each-mark P Q ms f a = each (λ m. P m.list) (λ m. Q m.list) ms (λ m h. f m.list h) a

-- what holds of what each is made

pub each-made : {A B : Type 0} (P : A → Type 0) (Q : B → Type 0) (k : A → B) (xs : List A) → ((x : A) → P x → Q (k x)) → AllByRecursion P xs → AllByRecursion Q (map k xs)
each-made P Q k [] f a = tt
each-made P Q k (x ∷ xs) f a = (f x a.0, each-made P Q k xs f a.1)

pub each-trail_made : {A B : Type 0} (P : A → Type 0) (Q : B → Type 0) (k : A → B) (ts : List (Trail A)) → ((x : A) → P x → Q (k x)) → AllOnTrails P ts → AllOnTrails Q (map (trail_with k) ts)
each-trail_made P Q k ts f a = each-made (AllOn P) (AllOn Q) (trail_with k) ts (λ t h. (each-made P Q k t.past f h.0, each-made P Q k t.ahead f h.1)) a

pub each-mark_made : {A B : Type 0} (P : A → Type 0) (Q : B → Type 0) (k : A → B) (ms : List (Mark A)) → ((x : A) → P x → Q (k x)) → AllOnMarks P ms → AllOnMarks Q (map (mark_with k) ms)
each-mark_made P Q k ms f a = each-made (λ m. P m.list) (λ m. Q m.list) (mark_with k) ms (λ m h. f m.list h) a

-- what each is made, in two ways

pub same : {A B : Type 0} (P : A → Type 0) (h g : A → B) (xs : List A) → ((x : A) → P x → h x ≡ g x) → AllByRecursion P xs → map h xs ≡ map g xs
same P h g [] e a = refl
same P h g (x ∷ xs) e a = ap₂ (λ y ys. y ∷ ys) (e x a.0) (same P h g xs e a.1)

abbrev trail_by : {B : Type 0} → ℕ → List B → List B → Trail B
trail_by who past ahead = record { who = who; past = past; ahead = ahead }

abbrev mark_by : {B : Type 0} → ℕ → B → Mark B
mark_by register list = record { register = register; list = list }

pub same-trails : {A B : Type 0} (P : A → Type 0) (h g : A → B) (ts : List (Trail A)) → ((x : A) → P x → h x ≡ g x) → AllOnTrails P ts → map (trail_with h) ts ≡ map (trail_with g) ts
same-trails P h g ts e a = same (AllOn P) (trail_with h) (trail_with g) ts (λ t p. ap₂ (trail_by t.who) (same P h g t.past e p.0) (same P h g t.ahead e p.1)) a

pub same-marks : {A B : Type 0} (P : A → Type 0) (h g : A → B) (ms : List (Mark A)) → ((x : A) → P x → h x ≡ g x) → AllOnMarks P ms → map (mark_with h) ms ≡ map (mark_with g) ms
same-marks P h g ms e a = same (λ m. P m.list) (mark_with h) (mark_with g) ms (λ m p. ap (mark_by m.register) (e m.list p)) a

-- one after the other

pub twice : {A B C : Type 0} (f : A → B) (g : B → C) (xs : List A) → map g (map f xs) ≡ map (λ x. g (f x)) xs
twice f g [] = refl
twice f g (x ∷ xs) = ap (λ ys. g (f x) ∷ ys) (twice f g xs)

pub twice-trails : {A B C : Type 0} (f : A → B) (g : B → C) (ts : List (Trail A)) → map (trail_with g) (map (trail_with f) ts) ≡ map (trail_with (λ x. g (f x))) ts
twice-trails f g [] = refl
twice-trails f g (t ∷ ts) = ap₂ (λ y ys. y ∷ ys) (ap₂ (trail_by t.who) (twice f g t.past) (twice f g t.ahead)) (twice-trails f g ts)

pub twice-marks : {A B C : Type 0} (f : A → B) (g : B → C) (ms : List (Mark A)) → map (mark_with g) (map (mark_with f) ms) ≡ map (mark_with (λ x. g (f x))) ms
twice-marks f g [] = refl
twice-marks f g (m ∷ ms) = ap (λ ys. mark_by m.register (g (f m.list)) ∷ ys) (twice-marks f g ms)
