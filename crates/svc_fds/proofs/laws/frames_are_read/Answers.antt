use Rattle.svc_fds.proofs.FrameLemmas.{frames-read, read-frames}
use Rattle.svc_fds.proofs.laws.frames_are_read.Goals as goal

pub returns : goal.returns
returns c = record { frames = λ words bytes small frames. frames-read words bytes small frames; only = λ words bytes read. read-frames bytes words read }
