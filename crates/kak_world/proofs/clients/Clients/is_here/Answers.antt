use Rattle.tables.specs.Tables.{place_where}
use Rattle.kak_world.specs.Flat.{is_of}
use Rattle.std.proofs.Common.{ap, ◌∙◌, arith}
use Rattle.kak_world.proofs.ClientLemmas.{here-test}
use Rattle.kak_world.proofs.clients.Clients.is_here.Goals as goal

pub returns : goal.returns
returns c = here-test c.args.who c.self.inside.rows.items _ _ _ c.self.view_is (c.place.ensures ∙ ap (place_where (is_of c.args.who)) c.as_slice.ensures.value) (omega (arith, c.len.ensures, c.self.inside.rows.ok.0))
