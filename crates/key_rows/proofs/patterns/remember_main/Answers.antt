use Rattle.std.proofs.Common.{◌≡◌, ◌++◌, ◌∷◌, [], List, ℕ, ap, ap₂, sym, subst, ◌∙◌}
use Rattle.std.specs.Prelude.{encode_utf8_all}
use Rattle.list_model.specs.Ranges.{Range}
use Rattle.selection_set.specs.Inside.{range_of}
use Rattle.selection_set.specs.Held.{IsHeld, selected, main_of}
use Rattle.selection_set.proofs.HeldLemmas.{IsMain, main-sel}
use Rattle.kak_world.specs.Flat.{text_of, sels_of}
use Rattle.kak_world.specs.Registers.{set_row}
use Rattle.kak_world.specs.Rows.{Answers}
use Rattle.key_rows.specs.Patterns.{pattern_of}
use Rattle.key_rows.proofs.patterns.remember_main.Goals as goal

pub pattern_of-requires : goal.pattern_of-requires
pattern_of-requires g c =
    let is : IsMain c.lines.result.now c.sels-sels.result.now c.at-main.result =
    main-sel c.lines.result.now c.sels-sels.result.now c.main.result c.at-main.result c.main.ensures.value c.at-main.ensures (subst (λ t. IsHeld t c.sels-sels.result.now) (sym c.lines.ensures) c.sels-sels.ensures.held) in
    is.inside

pub returns-clause-row : goal.returns-clause-row
returns-clause-row g c =
    let who = c.args.who in
    let flat = c.args.world.now.flat in
    let is : IsMain c.lines.result.now c.sels-sels.result.now c.at-main.result =
    main-sel c.lines.result.now c.sels-sels.result.now c.main.result c.at-main.result c.main.ensures.value c.at-main.ensures (subst (λ t. IsHeld t c.sels-sels.result.now) (sym c.lines.ensures) c.sels-sels.ensures.held) in
    let main : range_of c.lines.result.now c.at-main.result ≡ main_of (sels_of who flat) = is.same ∙ ap main_of (ap (λ t. selected t c.sels-sels.result.now) c.lines.ensures ∙ sym c.sels-sels.ensures.sels) in
    let pattern : c.in_ok-pattern.pattern ≡ pattern_of c.args.bounds (text_of who flat) (main_of (sels_of who flat)) = c.in_ok-pattern.ensures ∙ ap₂ (λ (t : List ℕ) (r : Range). pattern_of c.args.bounds t r) c.lines.ensures main in
    let given : c.push.new.self ≡ encode_utf8_all (pattern_of c.args.bounds (text_of who flat) (main_of (sels_of who flat))) ∷ [] =
    c.in_ok-push.ensures.ok ∙ ap₂ (λ (xs : List (List ℕ)) (w : List ℕ). xs ++ w ∷ []) c.new-strings.ensures (c.in_ok-string_of.ensures ∙ ap encode_utf8_all (c.as_slice.ensures ∙ pattern)) in
    subst (λ ss. Answers c.set_register.result c.set_register.new.self.flat (set_row 47 ss flat)) given c.set_register.ensures.row
