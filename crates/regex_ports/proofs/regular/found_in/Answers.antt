use Rattle.std.proofs.Common.{◌≡◌, ℕ, [], ◌∷◌, ◌++◌, Bool, List, is_some, string_bytes, ap₂, ◌∙◌, subst, rules}
use Rattle.regex.specs.Patterns.{find_str}
use Rattle.regex.specs.Strings.{regex_pattern}
use Rattle.regex_ports.specs.Series.{AreBytes}
use Rattle.regex_ports.proofs.SeriesLemmas.{next-some, tested-more, bytes-more}
use Rattle.regex_ports.proofs.regular.found_in.Goals as goal

pub loop-found-preserved : goal.loop-found-preserved
loop-found-preserved g c =
    let test : List ℕ → Bool = λ t. is_some (find_str (regex_pattern c.args.regex.now) t 0) in
    let text = string_bytes c.next.new.text in
    let before = g.T.Texts.left c.loop-found.texts in
    let rest = g.T.Texts.left c.next.new.self in
    let first : before ≡ text ∷ rest = next-some c.in_ok-next.field-0 before rest text c.if-branch.true c.in_ok-next.ensures in
    let bytes : AreBytes text = subst AreBytes c.as_str.ensures.value c.is_found.ensures.bytes in
    let own : c.is_found.result ≡ test text = c.is_found.ensures.found ∙ ap₂ (λ re t. is_some (find_str re t 0)) c.loop-found.invariant.pattern c.as_str.ensures.value in
    let pushed : c.push.new.self.items ≡ c.loop-found.found.items ++ c.is_found.result ∷ [] = search rules in
    record {
      pattern = c.is_found.ensures.same ∙ c.loop-found.invariant.pattern;
      found = tested-more test c.loop-found.found.items c.push.new.self.items c.is_found.result before rest text pushed own first ∙ c.loop-found.invariant.found;
      bytes = λ later. c.loop-found.invariant.bytes (bytes-more before rest text first bytes later);
    }
