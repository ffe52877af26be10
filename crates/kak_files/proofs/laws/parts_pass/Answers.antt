use Rattle.kak_files.proofs.ExchangeLemmas.{passed-none, passed-read, passed-written, passed-trans, raised-range}
use Rattle.kak_files.proofs.laws.parts_pass.Goals as goal

pub returns : goal.returns
returns c = record {
  none = passed-none;
  read = passed-read;
  written = passed-written;
  parts = passed-trans;
  count = raised-range;
}
