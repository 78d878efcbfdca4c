use Rattle.xif_sampler.proofs.sampler.Sampler.take.Goals as goal

pub returns-in-Time-clause-represents : goal.returns-in-Time-clause-represents
returns-in-Time-clause-represents c = λ sources h p. rw c.in-Time.is (c.time.ensures.represents sources h p)

pub returns-in-Change-clause-represents : goal.returns-in-Change-clause-represents
returns-in-Change-clause-represents c = λ sources h p. rw c.in-Change.is (c.change.ensures sources h p)
