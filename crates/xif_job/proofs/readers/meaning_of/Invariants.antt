use Rattle.std.proofs.Common.{◌≡◌, drop}
use Rattle.xif_job.specs.Readers.{meaning}
use Rattle.xif_job.specs.Tables.{words_of}
use Rattle.xif_job.proofs.readers.meaning_of.Given as goal

-- the words that are left decide
abbrev pub invariant-loop-word : goal.invariant-loop-word
invariant-loop-word g l = meaning (words_of (drop l.word-index l.words)) l.text ≡ meaning (words_of l.words) l.text
