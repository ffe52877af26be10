-- Switches that are compared.
use Rattle.std.proofs.Common.{◌≡◌, ℕ, List, [], ◌∷◌, get_or, true, refl, ap, sym, ◌∙◌}
use Rattle.std.proofs.lemmas.Bool.{eq-eqb, eqb-true}
use Rattle.command_forms.specs.declared.switches.Switch.{Switch}
use Rattle.command_forms.specs.declared.switches.Switch.TheVariants.{Hidden, Docstring, Add, Codepoint, Title, Override, HlCursor, Separator, Group, Once, Always, Params, WithHooks, WithMaps}
use Rattle.command_forms.specs.Switches.{switch_number, is_same_switch}

-- all switches, in the order of their numbers
abbrev all : List Switch
all =
    Hidden ∷ Docstring ∷ Add ∷ Codepoint ∷ Title ∷ Override ∷ HlCursor ∷ Separator ∷ Group ∷ Once ∷ Always ∷ Params
    ∷ WithHooks ∷ WithMaps ∷ []

back : (s : Switch) → get_or all (switch_number s) Hidden ≡ s
back Hidden = refl
back Docstring = refl
back Add = refl
back Codepoint = refl
back Title = refl
back Override = refl
back HlCursor = refl
back Separator = refl
back Group = refl
back Once = refl
back Always = refl
back Params = refl
back WithHooks = refl
back WithMaps = refl

pub switch-same : (s : Switch) → is_same_switch s s ≡ true
switch-same s = eq-eqb (switch_number s) (switch_number s) refl

pub switch-true : (a b : Switch) → is_same_switch a b ≡ true → a ≡ b
switch-true a b h = sym (back a) ∙ ap (λ n. get_or all n Hidden) (eqb-true (switch_number a) (switch_number b) h) ∙ back b
