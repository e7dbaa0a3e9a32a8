use Rattle.path_claims.proofs.Contests.{one_owner}
use Rattle.path_claims.proofs.owner.a_path_has_one_owner.Goals as goal

pub returns : goal.returns
returns c = λ beats members x y w h k p q. one_owner beats w members x y h k p q
