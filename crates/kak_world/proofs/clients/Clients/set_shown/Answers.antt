use Rattle.std.proofs.Common.{◌<◌, length, ap, ◌∙◌, arith}
use Rattle.tables.specs.Tables.{place_where}
use Rattle.kak_world.specs.Flat.{is_of}
use Rattle.kak_world.proofs.ClientLemmas.{client-inside}
use Rattle.kak_world.proofs.ShowingLemmas.{client-seen}
use Rattle.kak_world.proofs.clients.Clients.set_shown.Goals as goal

pub index_mut-client-requires : goal.index_mut-client-requires
index_mut-client-requires c = let inside : c.place-at.result < length c.self.inside.rows.items = client-inside c.args.who c.self.inside.rows.items _ _ c.self.view_is c.requires (c.place-at.ensures ∙ ap (place_where (is_of c.args.who)) c.as_slice.ensures.value) in omega (arith, c.self.inside.rows.ok.0)

pub returns : goal.returns
returns c = client-seen c.args.who c.self.inside.rows.items _ _ _ c.args.shown c.self.view_is c.requires (c.place-at.ensures ∙ ap (place_where (is_of c.args.who)) c.as_slice.ensures.value) c.index_mut-client.ensures.value
