-- For how many more answers there is room.
use Rattle.std.specs.Prelude.{ℕ, ◌-◌}
use Rattle.std.specs.VecDeque.{deque_len, deque_capacity}
use Rattle.svc_host.specs.declared.answers.Answers.{Answers}

abbrev pub room : Answers → ℕ
room answers = deque_capacity answers.events - deque_len answers.events
