-- What holds of an answer, well or not.
use Rattle.std.proofs.Common.{◌≡◌, Bool, true, false, ap, sym, subst, ◌∙◌, Ok, Err}
use Rattle.std.specs.Prelude.{OnOk, OnErr, IfOk, IsErrOf}
use Rattle.std.specs.declared.result.Result.{Result}
use Rattle.kak_world.specs.Seen.{CarriesValue}

pub on-err : {T : Type 0} {E : Type 0} {P : Type 0} (r : Result T E) → P → OnErr r P
on-err (Ok x) p = tt
on-err (Err e) p = p

pub on-ok : {T : Type 0} {E : Type 0} {P Q : Type 0} (r : Result T E) → OnOk r P → (P → Q) → OnOk r Q
on-ok (Ok x) p f = f p
on-ok (Err e) p f = tt

pub on-err-of : {T : Type 0} {E : Type 0} {P Q : Type 0} (r : Result T E) → OnErr r P → (P → Q) → OnErr r Q
on-err-of (Ok x) p f = tt
on-err-of (Err e) p f = f p

pub if-ok : {T : Type 0} {E : Type 0} (P Q : T → Type 0) (r : Result T E) → IfOk r P → ((x : T) → P x → Q x) → IfOk r Q
if-ok P Q (Ok x) p f = f x p
if-ok P Q (Err e) p f = tt

pub either : {T : Type 0} {E : Type 0} {P Q B G : Type 0} (r : Result T E) → OnOk r P → OnOk r Q → OnErr r B → (P → Q → G) → (B → G) → G
either (Ok x) p q b f g = f p q
either (Err e) p q b f g = g b

abbrev is-ok : {T : Type 0} {E : Type 0} → Result T E → Bool
is-ok (Ok z) = true
is-ok (Err z) = false

abbrev pub error-of : {T : Type 0} {E : Type 0} → E → Result T E → E
error-of d (Ok z) = d
error-of d (Err z) = z

pub ok-err : {T : Type 0} {E : Type 0} (x : T) (e : E) → ◌≡◌ {A = Result T E} (Ok x) (Err e) → ⊥
ok-err x e h = let no : true ≡ false = ap is-ok h in cc

-- an answer that is the same
pub ok-as : {T : Type 0} {E : Type 0} (P : Type 0) (r s : Result T E) → r ≡ s → OnOk s P → OnOk r P
ok-as P r s e p = subst (λ x. OnOk x P) (sym e) p

-- what holds of an answer without a value holds of it with one
pub carried-ok : {T : Type 0} {E : Type 0} (P : Type 0) (d : Result (Unit {0}) E) (x : T) (r : Result T E) → CarriesValue d x r → OnOk d P → OnOk r P
carried-ok P (Ok u) x (Ok y) c p = p
carried-ok P (Ok u) x (Err e) c p = tt
carried-ok P (Err e) x (Ok y) c p = absurd (let no : true ≡ false = ap is-ok c in cc)
carried-ok P (Err e) x (Err f) c p = tt

pub carried-if : {T : Type 0} {E : Type 0} (P : T → Type 0) (d : Result (Unit {0}) E) (x : T) (r : Result T E) → CarriesValue d x r → OnOk d (P x) → IfOk r P
carried-if P (Ok u) x r c p = subst (λ s. IfOk s P) (sym c) p
carried-if P (Err e) x r c p = subst (λ s. IfOk s P) (sym c) tt

pub carried-err : {T : Type 0} {E : Type 0} (P : Type 0) (d : Result (Unit {0}) E) (x : T) (r : Result T E) → CarriesValue d x r → P → OnErr r P
carried-err P d x (Ok y) c p = tt
carried-err P d x (Err e) c p = p

pub carried-to : {T : Type 0} {E : Type 0} (d : Result (Unit {0}) E) (x : T) (r : Result T E) (e : E) → CarriesValue d x r → IsErrOf d e → IsErrOf r e
carried-to (Ok u) x r e c h = absurd (let no : true ≡ false = ap is-ok h in cc)
carried-to (Err f) x r e c h = c ∙ ap Err (ap (error-of f) h)

pub carried-from : {T : Type 0} {E : Type 0} (d : Result (Unit {0}) E) (x : T) (r : Result T E) (e : E) → CarriesValue d x r → IsErrOf r e → IsErrOf d e
carried-from (Ok u) x r e c h = absurd (let no : true ≡ false = ap is-ok (sym c ∙ h) in cc)
carried-from (Err f) x r e c h = ap Err (ap (error-of f) (sym c ∙ h))

pub on-ok-of : {T : Type 0} {E : Type 0} {P : Type 0} (r : Result T E) → P → OnOk r P
on-ok-of (Ok x) p = p
on-ok-of (Err e) p = tt
