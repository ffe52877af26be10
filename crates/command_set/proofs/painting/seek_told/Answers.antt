use Rattle.std.proofs.Common.{◌≡◌, Err, subst}
use Rattle.std.specs.Prelude.{IfSome}
use Rattle.kak_world.specs.Flat.{faces_of}
use Rattle.kak_world.specs.Rows.{row_of}
use Rattle.command_set.specs.Painters.{groups_told}
use Rattle.command_set.specs.Painting.{seeks}
use Rattle.command_set.proofs.PlainLemmas.{plain-groups, told-refused}
use Rattle.command_set.proofs.painting.seek_told.Goals as goal

pub returns-in-Err : goal.returns-in-Err
returns-in-Err g c =
    let flat = c.args.world.now.flat in
    let words = c.args.matches.now.groups in
    let e = c.in-Err.error in
    let why = subst (λ faces. IfSome (row_of e) (λ x. groups_told faces words ≡ Err e)) c.faces.ensures c.in-Err.ensures.why in
    record { row = told-refused (seeks c.args.at c.args.matches.now.pattern flat) flat (groups_told (faces_of flat) words) e (plain-groups (faces_of flat) words) why }
