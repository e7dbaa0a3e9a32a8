use Rattle.std.proofs.Common.{refl}
use Rattle.journal_core.specs.Replacing.{scratch_name_of}
use Rattle.journal_core.proofs.History.{on_observable}
use Rattle.journal_commit.proofs.JoinedParts.{replacing_moments, replacing_durable, replacing_reads, replaced_called, settled_called, synced_called}
use Rattle.journal_commit.proofs.Proper.{room_proper}
use Rattle.journal_commit.proofs.replacing.replace.Goals as goal

pub returns-clause-moments : goal.returns-clause-moments
returns-clause-moments g c =
    on_observable (g.T.Tree.history c.args.tree.now) _ (λ v rest is.
    replacing_moments (scratch_name_of c.args.name.now) c.args.name.now c.args.bytes.now refl v _ _ rest is c.write_new.ensures.moments)

pub returns-clause-is_durable : goal.returns-clause-is_durable
returns-clause-is_durable g c =
    on_observable (g.T.Tree.history c.args.tree.now) _ (λ v rest is.
    replacing_durable (scratch_name_of c.args.name.now) c.args.name.now c.args.bytes.now refl v _ _ rest is c.write_new.ensures.moments)

pub returns-clause-reads : goal.returns-clause-reads
returns-clause-reads g c =
    on_observable (g.T.Tree.history c.args.tree.now) _ (λ v rest is.
    replacing_reads (scratch_name_of c.args.name.now) c.args.name.now c.args.bytes.now refl v _ _ rest is c.write_new.ensures.moments)

pub returns-clause-settled : goal.returns-clause-settled
returns-clause-settled g c = settled_called c.args.name.now c.args.bytes.now _ _ c.write_new.result c.write_new.ensures.lasting

pub returns-clause-ok : goal.returns-clause-ok
returns-clause-ok g c = replaced_called c.args.name.now c.args.bytes.now _ _ c.write_new.result c.write_new.ensures.lasting

pub returns-clause-synced : goal.returns-clause-synced
returns-clause-synced g c = synced_called c.args.name.now c.args.bytes.now _ _ c.write_new.result c.write_new.ensures.lasting

pub returns-clause-proper : goal.returns-clause-proper
returns-clause-proper g c =
    on_observable (g.T.Tree.history c.args.tree.now) _ (λ v rest is room.
    room_proper (scratch_name_of c.args.name.now) c.args.name.now refl v _ rest is room _ _ c.write_new.ensures.proper)
