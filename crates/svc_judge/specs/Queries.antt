-- What each query asks of an entry.
use Rattle.std.specs.Prelude.{Bool, true, false}
use Rattle.svc_record.specs.declared.entry.Entry.{Entry}
use Rattle.svc_record.specs.Record.{Record, is_running, is_bootstrap, is_bootstrap_complete, is_signal}
use Rattle.svc_record.specs.Asks.{is_open, is_bind, is_bind_answer, is_adopt, is_adopt_answer, is_try, is_try_answer, is_connect, is_connect_answer, is_send, is_send_answer, is_settings, is_set, is_handshake, is_shaken, is_daemonize, is_side}
use Rattle.svc_record.specs.Descriptors.{is_close}
use Rattle.svc_record.specs.Failed.{is_failure, is_fail}
use Rattle.svc_record.specs.Starts.{is_start, is_ready_event, is_ended_event}
use Rattle.svc_record.specs.Closes.{is_broadcast, is_loop_end}
use Rattle.svc_record.specs.Offer.{is_last_answer, is_not_there, is_busy_answer}
use Rattle.svc_record.specs.Connections.{is_arrival, is_judged, is_judged_as, is_refuse, is_serve, is_drop, is_cut, is_finished, is_set_as, is_shaken_as, is_full, is_rest}
use Rattle.svc_record.specs.Boot.{is_side_child, is_side_parent, is_notify, is_open_receiver}
use Rattle.svc_record.specs.Ends.{is_child_ready, is_parent_failure, is_no_sender, is_receive_failure}
use Rattle.svc_record.specs.Drain.{is_ending}
use Rattle.svc_judge.specs.declared.query.Ask.{Ask}
use Rattle.svc_judge.specs.declared.query.Ask.TheVariants as asks
use Rattle.svc_judge.specs.declared.query.News.{News}
use Rattle.svc_judge.specs.declared.query.News.TheVariants as news
use Rattle.svc_judge.specs.declared.query.Answer.{Answer}
use Rattle.svc_judge.specs.declared.query.Answer.TheVariants as answers
use Rattle.svc_judge.specs.declared.query.Order.{Order}
use Rattle.svc_judge.specs.declared.query.Order.TheVariants as orders
use Rattle.svc_judge.specs.declared.query.Deed.{Deed}
use Rattle.svc_judge.specs.declared.query.Deed.TheVariants as deeds
use Rattle.svc_judge.specs.declared.query.Query.{Query}
use Rattle.svc_judge.specs.declared.query.Query.TheVariants as queries

-- the entry tells the ask
abbrev pub ask_test : Ask → Entry → Bool
ask_test (asks.Bind s i) = is_bind s i
ask_test (asks.Adopt s i) = is_adopt s i
ask_test asks.Receive = is_try
ask_test asks.Connect = is_connect
ask_test asks.Send = is_send
ask_test (asks.Settings c) = is_settings c
ask_test (asks.Handshake c) = is_handshake c
ask_test asks.Fork = is_daemonize

-- the event answers the ask
abbrev pub answer_test : Ask → Entry → Bool
answer_test (asks.Bind s i) = is_bind_answer s i
answer_test (asks.Adopt s i) = is_adopt_answer s i
answer_test asks.Receive = is_try_answer
answer_test asks.Connect = is_connect_answer
answer_test asks.Send = is_send_answer
answer_test (asks.Settings c) = is_set c
answer_test (asks.Handshake c) = is_shaken c
answer_test asks.Fork = is_side

-- the ask is open
abbrev pub is_ask_open : Ask → Record → Bool
is_ask_open a = is_open (ask_test a) (answer_test a)

-- the event is of this kind
abbrev pub news_test : News → Entry → Bool
news_test news.Signal = is_signal
news_test news.SideChild = is_side_child
news_test news.SideParent = is_side_parent
news_test news.LastAnswer = is_last_answer
news_test news.NotThere = is_not_there
news_test news.BusyAnswer = is_busy_answer
news_test news.Full = is_full
news_test news.ChildReady = is_child_ready
news_test news.ParentFailure = is_parent_failure
news_test news.NoSender = is_no_sender
news_test news.ReceiveFailure = is_receive_failure

-- the event is of this kind, and with these numbers
abbrev pub answer_event_test : Answer → Entry → Bool
answer_event_test (answers.Failure s i) = is_failure s i
answer_event_test (answers.Ready s) = is_ready_event s
answer_event_test (answers.Ended s) = is_ended_event s
answer_event_test (answers.LoopEnd s i j) = is_loop_end s i j
answer_event_test (answers.Arrival c) = is_arrival c
answer_event_test (answers.Finished c) = is_finished c
answer_event_test (answers.SettingsApplied c) = is_set_as true c
answer_event_test (answers.SettingsFailed c) = is_set_as false c
answer_event_test (answers.HandshakeDone c) = is_shaken_as true c
answer_event_test (answers.HandshakeFailed c) = is_shaken_as false c

-- the entry tells an action of this kind
abbrev pub order_test : Order → Entry → Bool
order_test orders.Running = is_running
order_test orders.Bootstrap = is_bootstrap
order_test orders.BootstrapComplete = is_bootstrap_complete
order_test orders.NotifyParent = is_notify
order_test orders.OpenReceiver = is_open_receiver
order_test orders.Broadcast = is_broadcast
order_test orders.Rest = is_rest
order_test orders.Ending = is_ending

-- the entry tells an action of this kind, and with this number
abbrev pub deed_test : Deed → Entry → Bool
deed_test (deeds.Close fd) = is_close fd
deed_test (deeds.Fail s) = is_fail s
deed_test (deeds.Start s) = is_start s
deed_test (deeds.Judged c) = is_judged c
deed_test (deeds.JudgedNo c) = is_judged_as false c
deed_test (deeds.Refuse c) = is_refuse c
deed_test (deeds.Serve c) = is_serve c
deed_test (deeds.Drop c) = is_drop c
deed_test (deeds.Cut c) = is_cut c

-- the entry passes the query's test
abbrev pub query_test : Query → Entry → Bool
query_test (queries.Ask a) = ask_test a
query_test (queries.News n) = news_test n
query_test (queries.Answer a) = answer_event_test a
query_test (queries.Order o) = order_test o
query_test (queries.Deed d) = deed_test d
