use Rattle.regex_select.proofs.TextLemmas.{waited-added}
use Rattle.regex_select.proofs.gathering.Gathered.finish.Goals as goal

pub returns : goal.returns
returns c = waited-added c.self.inside.text.bytes.items c.self.inside.waiting.items _ _ _ c.in_ok-push_utf8.ensures c.as_slice.ensures.value c.self.invariant c.self.view_is
