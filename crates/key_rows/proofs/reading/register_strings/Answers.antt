use Rattle.std.proofs.Common.{ap, sym, ◌∙◌}
use Rattle.std.proofs.lemmas.Bool.{false≢true}
use Rattle.std.specs.Prelude.{Some}
use Rattle.kak_registers.specs.Contents.{strings_of}
use Rattle.key_rows.proofs.RegisterLemmas.{read-settable}
use Rattle.key_rows.proofs.reading.register_strings.Goals as goal

pub returns-in-Some : goal.returns-in-Some
returns-in-Some g c =
    let read = read-settable c.args.name c.args.who c.args.world.now.flat (λ e. false≢true (sym (c.in-Some.ensures.none.1 e))) ∙ ap Some (ap (strings_of c.args.name) (sym c.registers.ensures) ∙ sym c.in-Some.ensures.some) in
    ap Some c.in_ok-copy.ensures ∙ sym read
