use Rattle.std.proofs.Common.{◌≡◌, suc, ◌+◌, ◌-◌, length, option_map, sym, ap, ◌∙◌, arith, subst}
use Rattle.regex.specs.Locations.{location_count}
use Rattle.regex.specs.Patterns.{find_str}
use Rattle.regex.specs.Strings.{matcher_pattern}
use Rattle.regex_ports.specs.Searching.{found_span, match_behind, AreLocated}
use Rattle.regex_ports.proofs.SearchLemmas.{none-left, one-more, last-one}
use Rattle.regex_ports.proofs.searching.push_groups.Goals as goal

pub returns-in_default-clause-found : goal.returns-in_default-clause-found
returns-in_default-clause-found c =
    none-left (find_str (matcher_pattern c.args.matcher.now) c.args.text.now) (location_count c.args.locations.now) (length c.args.text.now + 1 - c.loop.counter) c.loop.invariant.still c.loop.next c.loop.out _ c.loop.invariant.next c.in_default.is c.loop.invariant.rest

pub loop-preserved : goal.loop-preserved
loop-preserved c =
    let fuel : length c.args.text.now + 1 - c.loop.counter ≡ suc (length c.args.text.now + 1 - (c.loop.counter + 1)) = omega (arith, c.loop-test.true) in
    record {
      pattern = c.find_behind-next.ensures.same ∙ c.loop.invariant.pattern;
      room = c.find_behind-next.ensures.count ∙ c.loop.invariant.room;
      few = omega (arith, c.loop-test.true);
      still = match_behind (matcher_pattern c.args.matcher.now) c.args.text.now c.in-Some.found.end;
      next = c.find_behind-next.ensures.found ∙ ap (λ p. option_map found_span (match_behind p c.args.text.now c.in-Some.found.end)) c.loop.invariant.pattern;
      located = subst (λ p. AreLocated (match_behind p c.args.text.now c.in-Some.found.end) c.find_behind-next.new.locations) c.loop.invariant.pattern c.find_behind-next.ensures.located;
      rest = one-more (find_str (matcher_pattern c.args.matcher.now) c.args.text.now) (location_count c.args.locations.now) _ _ c.loop.invariant.still c.in-Some.found c.loop.locations c.loop.out c.push_located.new.out _
          (sym c.in-Some.is ∙ c.loop.invariant.next) fuel c.loop.invariant.room c.loop.invariant.located c.in_ok-push_located.ensures c.loop.invariant.rest;
    }

pub returns-in_default-next-clause-found : goal.returns-in_default-next-clause-found
returns-in_default-next-clause-found c =
    none-left (find_str (matcher_pattern c.args.matcher.now) c.args.text.now) (location_count c.args.locations.now) (length c.args.text.now + 1 - c.loop.counter) c.loop.invariant.still c.loop.next c.loop.out _ c.loop.invariant.next c.in_default-next.is c.loop.invariant.rest

pub returns-clause-found : goal.returns-clause-found
returns-clause-found c =
    let fuel : length c.args.text.now + 1 - c.loop.counter ≡ 1 = omega (arith, c.loop-test.false, c.loop.invariant.few) in
    last-one (find_str (matcher_pattern c.args.matcher.now) c.args.text.now) (location_count c.args.locations.now) _ c.loop.invariant.still c.in-Some-next.found c.loop.locations c.loop.out c.push_located-2.new.out _
    (sym c.in-Some-next.is ∙ c.loop.invariant.next) fuel c.loop.invariant.room c.loop.invariant.located c.in_ok-push_located-2.ensures c.loop.invariant.rest
