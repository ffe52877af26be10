use Rattle.std.proofs.MapsCrossing.{crosses as maps_cross}
use Rattle.session_server.proofs.JobCrossing.{crosses}
use Rattle.server_trials.proofs.server_tests.fn.a_client_is_drawn_while_another_one_is_held_back.new.Goals as goal

pub begin-requires-send-J : goal.begin-requires-send-J
begin-requires-send-J c = λ _ κs. search (crosses, maps_cross) depth 60 fits 20000

pub begin-requires-send-J-Gives : goal.begin-requires-send-J-Gives
begin-requires-send-J-Gives c = λ _ κs. search (crosses, maps_cross) depth 60 fits 20000
