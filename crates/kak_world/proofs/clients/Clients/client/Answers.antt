use Rattle.tables.specs.Tables.{place_where}
use Rattle.kak_world.specs.Flat.{is_of}
use Rattle.std.proofs.Common.{◌<◌, length, arith, ◌∙◌, ap}
use Rattle.kak_world.proofs.ClientLemmas.{client-inside, client-read}
use Rattle.kak_world.proofs.clients.Clients.client.Goals as goal

pub index-requires : goal.index-requires
index-requires c = let inside : c.place.result < length c.self.inside.rows.items = client-inside c.args.who c.self.inside.rows.items _ _ c.self.view_is c.requires (c.place.ensures ∙ ap (place_where (is_of c.args.who)) c.as_slice.ensures.value) in omega (arith, c.self.inside.rows.ok.0)

pub returns : goal.returns
returns c = client-read c.args.who c.self.inside.rows.items _ _ _ c.self.view_is c.requires (c.place.ensures ∙ ap (place_where (is_of c.args.who)) c.as_slice.ensures.value) c.index.ensures
