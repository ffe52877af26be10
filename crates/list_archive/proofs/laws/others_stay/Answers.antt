use Rattle.std.proofs.Common.{◌++◌, ◌∷◌, [], ◌-◌, length, take, drop}
use Rattle.list_archive.specs.Trails.{trail_of}
use Rattle.list_archive.proofs.CodeLemmas.{trail_by}
use Rattle.list_archive.proofs.OthersLemmas.{other-trail, trail-left, other-mark, mark-left}
use Rattle.list_archive.proofs.laws.others_stay.Goals as goal

pub returns : goal.returns
returns c = record {
  goes_on = λ keep who other had trails e. other-trail other (trail_by who (keep ((trail_of who trails).past ++ had ∷ [])) []) trails e;
  goes_back = λ who other had trails e. other-trail other (trail_by who (take (length (trail_of who trails).past - 1) (trail_of who trails).past) (had ∷ (trail_of who trails).ahead)) trails e;
  goes_forward = λ keep who other had trails e. other-trail other (trail_by who (keep ((trail_of who trails).past ++ had ∷ [])) (drop 1 (trail_of who trails).ahead)) trails e;
  leaves = trail-left;
  sets_mark = other-mark;
  takes_mark_off = mark-left;
}
