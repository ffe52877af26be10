use Rattle.unix_links.proofs.PauseLemmas.{waits}
use Rattle.unix_links.proofs.link.StreamLinkLink.recv.Goals as goal

pub returns-in-Err-clause-hears : goal.returns-in-Err-clause-hears
returns-in-Err-clause-hears g c =
    waits (g.R.Read.remaining c.args.self.now.first_reader.value) (g.R.Read.remaining c.args.self.now.reader) (g.R.Read.remaining c.read_or_pause.new.self)
    c.args.self.now.left c.in-Err.ensures.bytes (c.in-Err.ensures.waits (c.is_pause.ensures c.if-is_pause.true))
