-- What is set at each scope after an option was set.
use Rattle.std.proofs.Common.{◌≡◌, ℕ, eqb, ◌&&◌, List, true, false, Option, Some, None, Ok, refl, ap, sym, ◌∙◌}
use Rattle.std.specs.Prelude.{option_map, is_some}
use Rattle.std.specs.Borrow.{Bor}
use Rattle.std.specs.Option.{option_copied}
use Rattle.std.specs.Str.{bytes_eq}
use Rattle.std.proofs.lemmas.Bool.{eq-eqb, eqb-true, and_from, and_parts, false≢true}
use Rattle.std.proofs.lemmas.Slice.Eq.{bytes_eq-Decides}
use Rattle.tables.specs.Tables.{put_where}
use Rattle.tables.proofs.TableLemmas.{find-put_same, find-put_other}
use Rattle.scope_options.specs.declared.scope.Scope.{Scope}
use Rattle.scope_options.specs.declared.scope.Scope.TheVariants.{Global, Buffer, Window}
use Rattle.scope_options.specs.declared.value.OptionValue.{OptionValue}
use Rattle.scope_options.specs.declared.setting.Setting.{Setting}
use Rattle.scope_options.specs.Scopes.{is_same_scope}
use Rattle.scope_options.specs.Settings.{is_at, value_at, setting, without}
use Rattle.scope_options.specs.Changes.{unset_by, option_unset_in}

scope-same : (s : Scope) → is_same_scope s s ≡ true
scope-same Global = refl
scope-same (Buffer m) = eq-eqb m m refl
scope-same (Window k m) = and_from (eqb k k) (eqb m m) (eq-eqb k k refl) (eq-eqb m m refl)

scope-true : (a b : Scope) → is_same_scope a b ≡ true → a ≡ b
scope-true Global Global h = refl
scope-true Global (Buffer n) h = absurd (false≢true h)
scope-true Global (Window l n) h = absurd (false≢true h)
scope-true (Buffer m) Global h = absurd (false≢true h)
scope-true (Buffer m) (Buffer n) h = ap Buffer (eqb-true m n h)
scope-true (Buffer m) (Window l n) h = absurd (false≢true h)
scope-true (Window k m) Global h = absurd (false≢true h)
scope-true (Window k m) (Buffer n) h = absurd (false≢true h)
scope-true (Window k m) (Window l n) h =
    let parts = and_parts (eqb k l) (eqb m n) h in
    ap (λ x. Window x m) (eqb-true k l parts.0) ∙ ap (λ x. Window l x) (eqb-true m n parts.1)

is_at-same : (scope : Scope) (name : List ℕ) (value : OptionValue) → is_at scope name (setting scope name value) ≡ true
is_at-same scope name value = and_from (is_same_scope scope scope) (bytes_eq name name) (scope-same scope) ((bytes_eq-Decides name name).1 refl)

is_at-apart : (scope other : Scope) (name another : List ℕ) (value : OptionValue) (row : Setting) → is_at other another (setting scope name value) ≡ false → is_at scope name row ≡ true → is_at other another row ≡ false
is_at-apart scope other name another value row apart here =
    let parts = and_parts (is_same_scope row.scope scope) (bytes_eq row.name name) here in
    ap (λ s. is_same_scope s other && bytes_eq row.name another) (scope-true row.scope scope parts.0)
    ∙ ap (λ n. is_same_scope scope other && bytes_eq n another) ((bytes_eq-Decides row.name name).0 parts.1) ∙ apart

pub set-same : (scope : Scope) (name : List ℕ) (value : OptionValue) (rows : List Setting) → value_at scope name (put_where (is_at scope name) (setting scope name value) rows) ≡ Some value
set-same scope name value rows =
    ap (option_map (λ (r : Setting). r.value)) (find-put_same (is_at scope name) (setting scope name value) rows (is_at-same scope name value))

pub set-other : (scope other : Scope) (name another : List ℕ) (value : OptionValue) (rows : List Setting) → is_at other another (setting scope name value) ≡ false → value_at other another (put_where (is_at scope name) (setting scope name value) rows) ≡ value_at other another rows
set-other scope other name another value rows apart =
    ap (option_map (λ (r : Setting). r.value)) (find-put_other (is_at scope name) (is_at other another) (setting scope name value) rows (λ row here. is_at-apart scope other name another value row apart here) apart)

-- a value behind a reference is there where the reference is
pub copied-some : {T : Type 0} (o : Option (Bor T)) → is_some (option_copied o) ≡ is_some o
copied-some None = refl
copied-some (Some x) = refl

unset_by-some : (v : Option OptionValue) (scope : Scope) (name : List ℕ) (rows : List Setting) → is_some v ≡ true → is_same_scope scope Global ≡ false → unset_by v scope name rows ≡ Ok (without scope name rows)
unset_by-some None scope name rows declared inner = absurd (false≢true declared)
unset_by-some (Some v) Global name rows declared inner = absurd (false≢true (sym inner))
unset_by-some (Some v) (Buffer m) name rows declared inner = refl
unset_by-some (Some v) (Window k m) name rows declared inner = refl

pub unset-declared : (scope : Scope) (name : List ℕ) (rows : List Setting) → is_some (value_at Global name rows) ≡ true → is_same_scope scope Global ≡ false → option_unset_in scope name rows ≡ Ok (without scope name rows)
unset-declared scope name rows declared inner = unset_by-some (value_at Global name rows) scope name rows declared inner
