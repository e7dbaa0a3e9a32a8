use Rattle.change_outcome.proofs.Made.{brings_no_intent, keeps_room, made}
use Rattle.change_outcome.proofs.laws.a_change_keeps_paths_free.Goals as goal

pub returns-clause-room : goal.returns-clause-room
returns-clause-room c = λ inputs r wishes read clash files done ok clashes stage.
    keeps_room inputs r wishes read clash files done (made inputs r wishes read clash files done ok) clashes stage

pub returns-clause-intent : goal.returns-clause-intent
returns-clause-intent c = λ inputs r wishes read clash files done ok absent.
    brings_no_intent inputs r wishes read clash files done (made inputs r wishes read clash files done ok) absent
