use Rattle.key_rows.proofs.WantingLemmas.{kept-unheard}
use Rattle.key_rows.proofs.reading.keep.Goals as goal

pub returns-in_err-note_register-clause-wanting : goal.returns-in_err-note_register-clause-wanting
returns-in_err-note_register-clause-wanting g c = λ is.
    kept-unheard c.args.register c.used-name.result c.args.who c.args.world.now.flat c.store.new.world.flat c.note_register.new.self.flat c.used-name.ensures c.in_ok-store.ensures.sets c.in_err-note_register.ensures.err c.in_err-note_register.ensures.held
