pub mod MetaStatement
