-- Buffers at their numbers.
use Rattle.std.proofs.Common.{◌≡◌, ◌≢◌, ℕ, zero, suc, ◌+◌, ◌<◌, ◌≤◌, true, false, List, [], ◌∷◌, length, map, get_or, set, drop, refl, sym, ap, ◌∙◌, arith, None, Some}
use Rattle.std.specs.Prelude.{is_some, option_map}
use Rattle.std.specs.declared.option.Option.{Option}
use Rattle.kak_world.specs.Flat.{Buffer, is_there, buffer_or_scratch, buffer_at, changed_at, lowest}

-- a slot, after its buffer was changed
pub slot-changed : (n : ℕ) (f : Buffer → Buffer) (bs : List (Option Buffer)) → get_or (changed_at n f bs) n None ≡ option_map f (get_or bs n None)
slot-changed n f [] = refl
slot-changed zero f (b ∷ bs) = refl
slot-changed (suc n) f (b ∷ bs) = slot-changed n f bs

-- and another slot
pub slot-other : (m n : ℕ) (f : Buffer → Buffer) (bs : List (Option Buffer)) → m ≢ n → get_or (changed_at n f bs) m None ≡ get_or bs m None
slot-other m n f [] h = refl
slot-other zero zero f (b ∷ bs) h = absurd (h refl)
slot-other zero (suc n) f (b ∷ bs) h = refl
slot-other (suc m) zero f (b ∷ bs) h = refl
slot-other (suc m) (suc n) f (b ∷ bs) h = slot-other m n f bs (λ e. h (ap suc e))

-- the buffer that was changed
pub buffer-changed : (n : ℕ) (f : Buffer → Buffer) (bs : List (Option Buffer)) → is_there n bs ≡ true → buffer_at n (changed_at n f bs) ≡ f (buffer_at n bs)
buffer-changed n f bs there = ap buffer_or_scratch (slot-changed n f bs) ∙ of (get_or bs n None) there
  where
    of : (o : Option Buffer) → is_some o ≡ true → buffer_or_scratch (option_map f o) ≡ f (buffer_or_scratch o)
    of (Some b) h = refl
    of None h = absurd (let no : false ≡ true = h in cc)

pub buffer-other : (m n : ℕ) (f : Buffer → Buffer) (bs : List (Option Buffer)) → m ≢ n → buffer_at m (changed_at n f bs) ≡ buffer_at m bs
buffer-other m n f bs h = ap buffer_or_scratch (slot-other m n f bs h)

-- what a change leaves alone stays of each buffer
pub buffer-kept : {B : Type 0} (m n : ℕ) (f : Buffer → Buffer) (pr : Buffer → B) (bs : List (Option Buffer)) → ((b : Buffer) → pr (f b) ≡ pr b) → pr (buffer_at m (changed_at n f bs)) ≡ pr (buffer_at m bs)
buffer-kept m n f pr [] same = refl
buffer-kept zero zero f pr (Some b ∷ bs) same = same b
buffer-kept zero zero f pr (None ∷ bs) same = refl
buffer-kept zero (suc n) f pr (b ∷ bs) same = refl
buffer-kept (suc m) zero f pr (b ∷ bs) same = refl
buffer-kept (suc m) (suc n) f pr (b ∷ bs) same = buffer-kept m n f pr bs same

pub there-kept : (m n : ℕ) (f : Buffer → Buffer) (bs : List (Option Buffer)) → is_there m (changed_at n f bs) ≡ is_there m bs
there-kept m n f [] = refl
there-kept zero zero f (Some b ∷ bs) = refl
there-kept zero zero f (None ∷ bs) = refl
there-kept zero (suc n) f (b ∷ bs) = refl
there-kept (suc m) zero f (b ∷ bs) = refl
there-kept (suc m) (suc n) f (b ∷ bs) = there-kept m n f bs

pub length-kept : (n : ℕ) (f : Buffer → Buffer) (bs : List (Option Buffer)) → length (changed_at n f bs) ≡ length bs
length-kept n f [] = refl
length-kept zero f (b ∷ bs) = refl
length-kept (suc n) f (b ∷ bs) = ap suc (length-kept n f bs)

-- a buffer that is there has a slot
pub there-inside : (n : ℕ) (bs : List (Option Buffer)) → is_there n bs ≡ true → n < length bs
there-inside n [] h = absurd (let no : false ≡ true = h in cc)
there-inside zero (b ∷ bs) h = omega arith
there-inside (suc n) (b ∷ bs) h = let rest : n < length bs = there-inside n bs h in omega arith

-- a slot that is set to the changed buffer
pub set-changed : (n : ℕ) (f : Buffer → Buffer) (b : Buffer) (bs : List (Option Buffer)) → get_or bs n None ≡ Some b → set bs n (Some (f b)) ≡ changed_at n f bs
set-changed n f b [] h = refl
set-changed zero f b (o ∷ bs) h = sym (ap (λ x. option_map f x ∷ bs) h)
set-changed (suc n) f b (o ∷ bs) h = ap (λ xs. o ∷ xs) (set-changed n f b bs h)

-- a slot without a buffer stays
pub none-changed : (n : ℕ) (f : Buffer → Buffer) (bs : List (Option Buffer)) → get_or bs n None ≡ None → changed_at n f bs ≡ bs
none-changed n f [] h = refl
none-changed zero f (o ∷ bs) h = ap (λ x. option_map f x ∷ bs) h ∙ sym (ap (λ x. x ∷ bs) h)
none-changed (suc n) f (o ∷ bs) h = ap (λ xs. o ∷ xs) (none-changed n f bs h)

-- two changes that make the same of the buffer are the same
pub changed-by : (n : ℕ) (f g : Buffer → Buffer) (bs : List (Option Buffer)) → f (buffer_at n bs) ≡ g (buffer_at n bs) → changed_at n f bs ≡ changed_at n g bs
changed-by n f g [] h = refl
changed-by zero f g (Some b ∷ bs) h = ap (λ x. Some x ∷ bs) h
changed-by zero f g (None ∷ bs) h = refl
changed-by (suc n) f g (o ∷ bs) h = ap (λ xs. o ∷ xs) (changed-by n f g bs h)

-- buffers on which each list of a holder was taken off
pub buffer-mapped : {B : Type 0} (m : ℕ) (f : Buffer → Buffer) (pr : Buffer → B) (bs : List (Option Buffer)) → ((b : Buffer) → pr (f b) ≡ pr b) → pr (buffer_at m (map (option_map f) bs)) ≡ pr (buffer_at m bs)
buffer-mapped m f pr [] same = refl
buffer-mapped zero f pr (Some b ∷ bs) same = same b
buffer-mapped zero f pr (None ∷ bs) same = refl
buffer-mapped (suc m) f pr (b ∷ bs) same = buffer-mapped m f pr bs same

pub there-mapped : (m : ℕ) (f : Buffer → Buffer) (bs : List (Option Buffer)) → is_there m (map (option_map f) bs) ≡ is_there m bs
there-mapped m f [] = refl
there-mapped zero f (Some b ∷ bs) = refl
there-mapped zero f (None ∷ bs) = refl
there-mapped (suc m) f (b ∷ bs) = there-mapped m f bs

-- the least number, in what is left of the slots
pub lowest-here : (bs : List (Option Buffer)) (i : ℕ) (d : Option Buffer) → i < length bs → is_some (get_or bs i d) ≡ true → i + lowest (drop i bs) ≡ i
lowest-here [] i d h s = absurd (omega arith)
lowest-here (Some b ∷ bs) zero d h s = refl
lowest-here (None ∷ bs) zero d h s = absurd (let no : false ≡ true = s in cc)
lowest-here (b ∷ bs) (suc i) d h s = let rest : i + lowest (drop i bs) ≡ i = lowest-here bs i d (omega arith) s in omega arith

pub lowest-on : (bs : List (Option Buffer)) (i : ℕ) (d : Option Buffer) → i < length bs → is_some (get_or bs i d) ≡ false → i + lowest (drop i bs) ≡ i + 1 + lowest (drop (i + 1) bs)
lowest-on bs i d h s = ap (λ n. i + n) (from bs i d h s) ∙ omega arith
  where
    from : (bs : List (Option Buffer)) (i : ℕ) (d : Option Buffer) → i < length bs → is_some (get_or bs i d) ≡ false → lowest (drop i bs) ≡ 1 + lowest (drop (i + 1) bs)
    from [] i d h s = absurd (omega arith)
    from (Some b ∷ bs) zero d h s = absurd (let no : true ≡ false = s in cc)
    from (None ∷ bs) zero d h s = omega arith
    from (b ∷ bs) (suc i) d h s = let e : suc i + 1 ≡ suc (i + 1) = omega arith in rw e (from bs i d (omega arith) s)

pub lowest-past : (bs : List (Option Buffer)) (i : ℕ) → length bs ≤ i → i + lowest (drop i bs) ≡ i
lowest-past [] i h = drop-none i
  where
    drop-none : (i : ℕ) → i + lowest (drop i []) ≡ i
    drop-none zero = refl
    drop-none (suc i) = omega arith
lowest-past (b ∷ bs) zero h = absurd (omega arith)
lowest-past (b ∷ bs) (suc i) h = let rest : i + lowest (drop i bs) ≡ i = lowest-past bs i (omega arith) in omega arith
