-- The acceptor at which a room of the system is served.
use Rattle.std.specs.declared.alloc.Global.{Global}
use Rattle.std.specs.declared.net.tcp.TcpListener.{TcpListener}
use Rattle.std.specs.declared.net.tcp.TcpStream.{TcpStream}
use Rattle.std.specs.declared.rc.Rc.{Rc}
use Rattle.std.specs.declared.rt.LibcRuntime.{LibcRuntime}
use Rattle.dispatch_room_tcp.specs.declared.tcp_acceptors.TcpAcceptor.{TcpAcceptor}

-- its clock, its listener and its streams are the system's
abbrev pub SystemAcceptor : Type 0
SystemAcceptor = TcpAcceptor LibcRuntime TcpListener (Rc TcpStream Global)
