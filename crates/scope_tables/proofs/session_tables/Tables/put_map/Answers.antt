use Rattle.std.proofs.Common.{◌<◌, ◌≤◌, length, refl, ap, ◌∙◌, arith}
use Rattle.tables.specs.Tables.{place_where}
use Rattle.tables.proofs.TableLemmas.{put-at, put-past}
use Rattle.scope_tables.specs.Maps.{is_map, with_map}
use Rattle.scope_tables.proofs.ChangeLemmas.{with-maps}
use Rattle.scope_tables.proofs.session_tables.Tables.put_map.Goals as goal

pub returns-then-at-len-clause-ok : goal.returns-then-at-len-clause-ok
returns-then-at-len-clause-ok g c =
    let rows = c.self.inside.maps.items in
    let found = c.map_place-at.ensures ∙ ap (place_where (is_map c.args.map.scope c.args.map.mode c.args.map.key)) c.as_slice.ensures.value in
    let inside : c.map_place-at.result < length c.self.inside.maps.items = omega arith in
    with-maps _ _ (with_map c.args.map.scope c.args.map.mode c.args.map.key c.args.map.keys) _ c.self.view_is (put-at (is_map c.args.map.scope c.args.map.mode c.args.map.key) c.args.map rows rows c.map_place-at.result refl found inside)

pub returns-clause-ok : goal.returns-clause-ok
returns-clause-ok g c =
    let rows = c.self.inside.maps.items in
    let found = c.map_place-at.ensures ∙ ap (place_where (is_map c.args.map.scope c.args.map.mode c.args.map.key)) c.as_slice.ensures.value in
    let past : length c.self.inside.maps.items ≤ c.map_place-at.result = omega arith in
    with-maps _ _ (with_map c.args.map.scope c.args.map.mode c.args.map.key c.args.map.keys) _ c.self.view_is (c.in_ok-push.ensures.items ∙ put-past (is_map c.args.map.scope c.args.map.mode c.args.map.key) c.args.map rows rows c.map_place-at.result refl found past)
