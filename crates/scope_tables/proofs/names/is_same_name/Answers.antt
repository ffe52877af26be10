use Rattle.std.proofs.Common.{◌≡◌, false, refl, ap, sym, ◌∙◌, rules}
use denote.Enum.Bare.{sameb, same_true, same_false}
use Rattle.tables.proofs.TableLemmas.{by_test}
use Rattle.scope_tables.specs.contracts.names.HookName.{the_type}
use Rattle.scope_tables.specs.declared.names.HookName.{HookName}
use Rattle.scope_tables.specs.Names.{is_same_name}
use Rattle.scope_tables.proofs.NameLemmas.{name-same, name-true}
use Rattle.scope_tables.proofs.names.is_same_name.Goals as goal

-- names have one tag exactly where they have one text
same-tags : (a b : HookName) → sameb the_type a b ≡ is_same_name a b
same-tags a b =
    by_test (λ t. t ≡ sameb the_type a b → t ≡ is_same_name a b) (sameb the_type a b)
    (λ _ e. sym (ap (λ x. is_same_name x b) (same_true the_type (search rules) a b (sym e)) ∙ name-same b))
    (λ _ e. by_test (λ u. u ≡ is_same_name a b → false ≡ u) (is_same_name a b) (λ _ f. absurd (same_false the_type a b (sym e) (name-true a b (sym f)))) (λ _ _. refl) refl)
    refl

pub returns : goal.returns
returns c = c.eq.ensures ∙ same-tags c.args.a c.args.b
