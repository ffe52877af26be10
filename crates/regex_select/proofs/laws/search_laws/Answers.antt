use Rattle.regex_select.proofs.FoundLemmas.{in-the-whole, is-a-match}
use Rattle.regex_select.proofs.laws.search_laws.Goals as goal

pub returns : goal.returns
returns c = record { in_the_whole = in-the-whole; is_a_match = is-a-match }
