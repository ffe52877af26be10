use Rattle.std.proofs.Common.{◌≡◌, ℕ, ◌∷◌, List, string_bytes, ap, ap₂, ◌∙◌, subst}
use Rattle.std.specs.Prelude.{flat_map}
use Rattle.regex.specs.Patterns.{find_all_str}
use Rattle.regex.specs.Strings.{regex_pattern, group_count}
use Rattle.regex_ports.specs.declared.pattern.GroupSpan.{GroupSpan}
use Rattle.regex_ports.specs.Searching.{taking_part}
use Rattle.regex_ports.specs.Series.{AreBytes}
use Rattle.regex_ports.proofs.SeriesLemmas.{next-some, tested-more, bytes-more}
use Rattle.regex_ports.proofs.searching.groups_in.Goals as goal

pub loop-found-preserved : goal.loop-found-preserved
loop-found-preserved g c =
    let gather : List ℕ → List GroupSpan = λ t. flat_map (taking_part (group_count c.args.regex.now)) (find_all_str (regex_pattern c.args.regex.now) t) in
    let text = string_bytes c.next.new.text in
    let before = g.T.Texts.left c.loop-found.texts in
    let rest = g.T.Texts.left c.next.new.self in
    let first : before ≡ text ∷ rest = next-some c.in_ok-next.field-0 before rest text c.if-branch.true c.in_ok-next.ensures in
    let bytes : AreBytes text = subst AreBytes c.as_str.ensures.value c.groups_found.ensures.bytes in
    let own : c.in_ok-list.list ≡ gather text =
    c.in_ok-list.ensures.found
    ∙ ap₂ (λ n re. flat_map (taking_part n) (find_all_str re c.as_str.result.now)) c.loop-found.invariant.room c.loop-found.invariant.pattern
    ∙ ap gather c.as_str.ensures.value in
    record {
      pattern = c.groups_found.ensures.same ∙ c.loop-found.invariant.pattern;
      room = c.groups_found.ensures.count ∙ c.loop-found.invariant.room;
      found = tested-more gather c.loop-found.found.items c.push.new.self.items c.in_ok-list.list before rest text c.in_ok-push.ensures.items own first ∙ c.loop-found.invariant.found;
      bytes = λ later. c.loop-found.invariant.bytes (bytes-more before rest text first bytes later);
    }
