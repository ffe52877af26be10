use Rattle.std.proofs.Common.{◌≡◌, refl, ap, ◌∙◌}
use Rattle.tables.specs.Tables.{place_where}
use Rattle.kak_world.specs.declared.clients.Client.{Client}
use Rattle.kak_world.specs.Flat.{is_of}
use Rattle.kak_world.proofs.ClientLemmas.{client-inside, client-read, client-set}
use Rattle.kak_world.proofs.clients.Clients.own_mut.Goals as goal

pub at_mut-client-requires : goal.at_mut-client-requires
at_mut-client-requires c = client-inside c.args.who c.args.self.now c.args.self.now c.place-i.result refl c.requires (c.place-i.ensures ∙ ap (place_where (is_of c.args.who)) (c.as_slice.ensures.value ∙ c.self.view_is))

pub returns : goal.returns
returns c =
    let e : c.place-i.result ≡ place_where (is_of c.args.who) c.args.self.now = c.place-i.ensures ∙ ap (place_where (is_of c.args.who)) (c.as_slice.ensures.value ∙ c.self.view_is) in (
      (refl, λ w. client-set c.args.who c.args.self.now c.place-i.result c.at_mut-client.result.now w c.requires e c.at_mut-client.ensures.value),
      record { writes_back = tt; value = ap (λ (y : Client). y.own) (client-read c.args.who c.args.self.now c.args.self.now c.place-i.result c.at_mut-client.result.now refl c.requires e c.at_mut-client.ensures.value) },
    )
