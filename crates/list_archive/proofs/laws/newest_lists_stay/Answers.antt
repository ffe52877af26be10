use Rattle.list_archive.specs.Kept.{size_of}
use Rattle.list_archive.proofs.LimitLemmas.{newest-end, newest-all, newest-allowed, newest-seen}
use Rattle.list_archive.proofs.laws.newest_lists_stay.Goals as goal

pub returns : goal.returns
returns c = record { newest_stays = newest-end size_of; all_stay = newest-all size_of; allowed = newest-allowed size_of; as_seen = λ text shelf lags a. newest-seen text shelf.log lags a }
