use Rattle.std.proofs.Common.{◌≡◌, ◌++◌, ◌∷◌, [], List, ℕ, inl, ap, ap₂, sym, subst, ◌∙◌}
use Rattle.std.specs.Prelude.{encode_utf8_all, IfSome, Err}
use Rattle.edit_line.specs.Halves.{whole}
use Rattle.kak_world.specs.declared.own.Own.{Own}
use Rattle.kak_world.specs.Registers.{set_row}
use Rattle.kak_world.specs.Rows.{row_of}
use Rattle.insert_prompt.specs.Rows.{typed_strings}
use Rattle.insert_prompt.proofs.AcceptLemmas.{kept-set, kept-refused, refused-acts, refused-same}
use Rattle.insert_prompt.proofs.prompts.keep_typed.Goals as goal

pub returns-in_ok-typed-in-Ok-clause-row : goal.returns-in_ok-typed-in-Ok-clause-row
returns-in_ok-typed-in-Ok-clause-row g c =
    let who = c.args.who in
    let flat = c.args.world.now.flat in
    let given : c.push.new.self ≡ typed_strings who flat = c.in_ok-push.ensures.ok ∙ ap₂ (λ (xs : List (List ℕ)) (w : List ℕ). xs ++ w ∷ []) c.new-strings.ensures (c.in_ok-string_of.ensures ∙ ap encode_utf8_all (c.whole.ensures ∙ ap (λ (o : Own). whole o.prompt) c.own.ensures)) in
    sym (kept-set c.args.name who flat c.set_register.new.self.flat c.leave.new.world.flat (ap (λ s. set_row c.args.name s flat) (sym given) ∙ c.in-Ok.ensures.row) c.in_ok-typed-in-Ok.ensures.left)

pub refuse-requires : goal.refuse-requires
refuse-requires g c = refused-acts c.in-Err.error c.args.name c.push.new.self c.args.who c.args.world.now.flat c.set_register.new.self.flat c.in-Err.ensures.row (λ e. c.in-Err.ensures.wanting (ap Err e)) ∙ c.requires

pub returns-in_ok-refuse-in-Err-clause-row : goal.returns-in_ok-refuse-in-Err-clause-row
returns-in_ok-refuse-in-Err-clause-row g c =
    let who = c.args.who in
    let flat = c.args.world.now.flat in
    let given : c.push.new.self ≡ typed_strings who flat = c.in_ok-push.ensures.ok ∙ ap₂ (λ (xs : List (List ℕ)) (w : List ℕ). xs ++ w ∷ []) c.new-strings.ensures (c.in_ok-string_of.ensures ∙ ap encode_utf8_all (c.whole.ensures ∙ ap (λ (o : Own). whole o.prompt) c.own.ensures)) in
    let row = subst (λ s. IfSome (row_of c.in-Err.error) (λ row. set_row c.args.name s flat ≡ record { world = c.set_register.new.self.flat; row = row })) given c.in-Err.ensures.row in
    kept-refused c.in-Err.error c.args.name who flat c.set_register.new.self.flat c.refuse.new.world.flat row c.in_ok-refuse-in-Err.ensures.left

-- the register was refused, and hooks couldn't be told that the prompt is left
pub returns-in_err-refuse-in-Err-clause-wanting : goal.returns-in_err-refuse-in-Err-clause-wanting
returns-in_err-refuse-in-Err-clause-wanting g c = λ is.
    inl (c.in_err-refuse-in-Err.ensures.err ∙ refused-same c.in-Err.error c.args.name c.push.new.self c.args.world.now.flat c.set_register.new.self.flat c.in-Err.ensures.row (λ e. c.in-Err.ensures.wanting (ap Err e)))
