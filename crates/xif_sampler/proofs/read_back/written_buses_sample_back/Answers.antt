use Rattle.xif_sampler.proofs.WrittenLaw.{law}
use Rattle.xif_sampler.proofs.read_back.written_buses_sample_back.Goals as goal

pub returns : goal.returns
returns c = law
