-- Keys are one exactly where their modifiers, their kinds and their characters are.
use Rattle.std.proofs.Common.{◌≡◌, ℕ, eqb, ◌&&◌, Bool, true, false, cond, refl, ap, sym, ◌∙◌}
use Rattle.std.specs.Bool.{beq}
use Rattle.std.proofs.lemmas.Bool.{eq-eqb, eqb-true, and_from, and_parts, false≢true}
use Rattle.key_names.specs.declared.key.Base.{Base}
use Rattle.key_names.specs.declared.key.Base.TheVariants.{Char, Ret, Tab, Esc, Backspace, Del, Up, Down, Left, Right, Home, End, PageUp, PageDown, F}
use Rattle.key_names.specs.declared.key.Key.{Key}
use Rattle.scope_tables.specs.Keys.{base_kind, base_value, is_same_key}

beq-same : (b : Bool) → beq b b ≡ true
beq-same true = refl
beq-same false = refl

beq-true : (a b : Bool) → beq a b ≡ true → a ≡ b
beq-true true true h = refl
beq-true true false h = absurd (false≢true h)
beq-true false true h = absurd (false≢true h)
beq-true false false h = refl

-- the key of a kind and a value
abbrev base_of : ℕ → ℕ → Base
base_of kind value =
    cond (eqb kind 0) (Char value) (cond (eqb kind 1) Ret (cond (eqb kind 2) Tab (cond (eqb kind 3) Esc (cond (eqb kind 4) Backspace
    (cond (eqb kind 5) Del (cond (eqb kind 6) Up (cond (eqb kind 7) Down (cond (eqb kind 8) Left (cond (eqb kind 9) Right
    (cond (eqb kind 10) Home (cond (eqb kind 11) End (cond (eqb kind 12) PageUp (cond (eqb kind 13) PageDown (F value))))))))))))))

base-back : (b : Base) → base_of (base_kind b) (base_value b) ≡ b
base-back (Char c) = refl
base-back Ret = refl
base-back Tab = refl
base-back Esc = refl
base-back Backspace = refl
base-back Del = refl
base-back Up = refl
base-back Down = refl
base-back Left = refl
base-back Right = refl
base-back Home = refl
base-back End = refl
base-back PageUp = refl
base-back PageDown = refl
base-back (F n) = refl

base-true : (a b : Base) → base_kind a ≡ base_kind b → base_value a ≡ base_value b → a ≡ b
base-true a b kinds values = sym (base-back a) ∙ ap (λ k. base_of k (base_value a)) kinds ∙ ap (base_of (base_kind b)) values ∙ base-back b

pub key-same : (key : Key) → is_same_key key key ≡ true
key-same key =
    let shifts = and_from (beq key.control key.control && beq key.alt key.alt) (beq key.shift key.shift) (and_from (beq key.control key.control) (beq key.alt key.alt) (beq-same key.control) (beq-same key.alt)) (beq-same key.shift) in
    let kinds = and_from (beq key.control key.control && beq key.alt key.alt && beq key.shift key.shift) (eqb (base_kind key.base) (base_kind key.base)) shifts (eq-eqb (base_kind key.base) (base_kind key.base) refl) in
    and_from (beq key.control key.control && beq key.alt key.alt && beq key.shift key.shift && eqb (base_kind key.base) (base_kind key.base)) (eqb (base_value key.base) (base_value key.base)) kinds (eq-eqb (base_value key.base) (base_value key.base) refl)

abbrev key-of : Bool → Bool → Bool → Base → Key
key-of control alt shift base = record { control = control; alt = alt; shift = shift; base = base }

key-by-parts : (a b : Key) → a.control ≡ b.control → a.alt ≡ b.alt → a.shift ≡ b.shift → a.base ≡ b.base → a ≡ b
key-by-parts a b controls alts shifts bases =
    ap (λ c. key-of c a.alt a.shift a.base) controls
    ∙ ap (λ l. key-of b.control l a.shift a.base) alts
    ∙ ap (λ s. key-of b.control b.alt s a.base) shifts
    ∙ ap (λ k. key-of b.control b.alt b.shift k) bases

pub key-true : (a b : Key) → is_same_key a b ≡ true → a ≡ b
key-true a b h =
    let all = and_parts (beq a.control b.control && beq a.alt b.alt && beq a.shift b.shift && eqb (base_kind a.base) (base_kind b.base)) (eqb (base_value a.base) (base_value b.base)) h in
    let kinds = and_parts (beq a.control b.control && beq a.alt b.alt && beq a.shift b.shift) (eqb (base_kind a.base) (base_kind b.base)) all.0 in
    let shifts = and_parts (beq a.control b.control && beq a.alt b.alt) (beq a.shift b.shift) kinds.0 in
    let alts = and_parts (beq a.control b.control) (beq a.alt b.alt) shifts.0 in
    key-by-parts a b (beq-true a.control b.control alts.0) (beq-true a.alt b.alt alts.1) (beq-true a.shift b.shift shifts.1)
    (base-true a.base b.base (eqb-true (base_kind a.base) (base_kind b.base) kinds.1) (eqb-true (base_value a.base) (base_value b.base) all.1))
