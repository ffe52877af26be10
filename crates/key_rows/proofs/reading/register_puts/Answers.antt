use Rattle.std.proofs.Common.{refl, ap, sym, ◌∙◌}
use Rattle.std.proofs.lemmas.Bool.{false≢true}
use Rattle.std.specs.Prelude.{Some}
use Rattle.kak_registers.specs.Contents.{strings_of}
use Rattle.key_rows.proofs.RegisterLemmas.{read-settable, known-puts, known-refusal, both-ok, each-err}
use Rattle.key_rows.proofs.reading.register_puts.Goals as goal

pub returns-in-Some-clause-puts : goal.returns-in-Some-clause-puts
returns-in-Some-clause-puts g c =
    let read = read-settable c.args.name c.args.who c.args.world.now.flat (λ e. false≢true (sym (c.in-Some.ensures.none.1 e))) ∙ ap Some (ap (strings_of c.args.name) (sym c.registers.ensures) ∙ sym c.in-Some.ensures.some) in
    both-ok _ _ _ c.strings_put.result (λ s p a. known-puts c.args.how c.args.name c.args.who c.args.world.now.flat c.in-Some.words.now c.in-Some.words.now s.items read refl p a) c.strings_put.ensures.puts c.strings_put.ensures.places

pub returns-in-Some-clause-refused : goal.returns-in-Some-clause-refused
returns-in-Some-clause-refused g c =
    let read = read-settable c.args.name c.args.who c.args.world.now.flat (λ e. false≢true (sym (c.in-Some.ensures.none.1 e))) ∙ ap Some (ap (strings_of c.args.name) (sym c.registers.ensures) ∙ sym c.in-Some.ensures.some) in
    each-err _ _ c.strings_put.result (λ e h. known-refusal c.args.how c.args.name c.args.who c.args.world.now.flat c.in-Some.words.now c.in-Some.words.now e read refl h) c.strings_put.ensures.refused

pub returns-in-Some-2-clause-puts : goal.returns-in-Some-2-clause-puts
returns-in-Some-2-clause-puts g c =
    let read = sym c.in_ok-read_only.ensures ∙ c.in-Some-2.is in
    both-ok _ _ _ c.strings_put-in-Some-2.result (λ s p a. known-puts c.args.how c.args.name c.args.who c.args.world.now.flat c.in-Some-2.words c.in-Some-2.words s.items read refl p a) c.strings_put-in-Some-2.ensures.puts c.strings_put-in-Some-2.ensures.places

pub returns-in-Some-2-clause-refused : goal.returns-in-Some-2-clause-refused
returns-in-Some-2-clause-refused g c =
    let read = sym c.in_ok-read_only.ensures ∙ c.in-Some-2.is in
    each-err _ _ c.strings_put-in-Some-2.result (λ e h. known-refusal c.args.how c.args.name c.args.who c.args.world.now.flat c.in-Some-2.words c.in-Some-2.words e read refl h) c.strings_put-in-Some-2.ensures.refused
