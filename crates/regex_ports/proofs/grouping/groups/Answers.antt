use Rattle.std.proofs.Common.{◌≡◌, [], ◌∷◌, ◌++◌, ◌∙◌, rules}
use Rattle.regex.specs.Strings.{group_count}
use Rattle.regex_ports.specs.declared.pattern.Groups.{Groups}
use Rattle.regex_ports.proofs.GroupLemmas.{gathered, groups-more}
use Rattle.regex_ports.proofs.grouping.groups.Goals as goal

pub loop-m-preserved : goal.loop-m-preserved
loop-m-preserved c =
    let groups : Groups = record { spans = c.in_ok-located.field-0 } in
    let pushed : c.push.new.self.items ≡ c.loop-m.list.items ++ groups ∷ [] = search rules in
    let room = c.in-Some.ensures.count ∙ c.loop-m.invariant.room in
    record {
      room = room;
      found = groups-more c.loop-m.list.items c.push.new.self.items groups c.loop-m.all c.next_read.new.self c.next_read.new.locations c.in-Some.m (group_count c.args.regex.now) pushed room
          (gathered c.next_read.new.locations c.in-Some.m c.in_ok-located.field-0.items c.start.result c.end.result c.start.ensures c.end.ensures c.in_ok-located.ensures)
          c.in-Some.ensures.found c.in-Some.ensures.rest ∙ c.loop-m.invariant.found;
    }
