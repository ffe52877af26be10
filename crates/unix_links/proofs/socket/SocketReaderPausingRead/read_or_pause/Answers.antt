use Rattle.unix_links.proofs.PauseLemmas.{untold-waits}
use Rattle.unix_links.proofs.socket.SocketReaderPausingRead.read_or_pause.Goals as goal

pub returns-clause-waits : goal.returns-clause-waits
returns-clause-waits c = untold-waits c.hear.result
